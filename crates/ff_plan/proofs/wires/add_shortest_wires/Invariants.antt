use Rattle.std.proofs.Common.{◌≡◌, ◌++◌, map, drop}
use Rattle.ff_plan.specs.laws.Numbering.{shortest_wire_in}
use Rattle.ff_plan.proofs.wires.add_shortest_wires.Given as goal

abbrev pub invariant-loop-one : goal.invariant-loop-one
invariant-loop-one l = l.wires.items ++ map (shortest_wire_in l.firsts l.streams l.graphs) (drop l.one-index l.placed) ≡ l.initial.wires.items ++ map (shortest_wire_in l.firsts l.streams l.graphs) l.placed
