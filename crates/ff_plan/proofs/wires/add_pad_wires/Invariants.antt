use Rattle.std.proofs.Common.{◌≡◌, ◌++◌, map, drop}
use Rattle.ff_plan.specs.laws.Numbering.{pad_wire_in}
use Rattle.ff_plan.proofs.wires.add_pad_wires.Given as goal

abbrev pub invariant-loop-pad : goal.invariant-loop-pad
invariant-loop-pad l = l.wires.items ++ map (pad_wire_in l.firsts l.streams l.graphs l.graph) (drop l.pad-index l.ins) ≡ l.initial.wires.items ++ map (pad_wire_in l.firsts l.streams l.graphs l.graph) l.ins
