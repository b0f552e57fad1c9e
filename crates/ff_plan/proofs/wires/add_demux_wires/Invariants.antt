use Rattle.std.proofs.Common.{◌≡◌, ◌++◌, map, drop}
use Rattle.ff_plan.specs.laws.Numbering.{demux_wire_in}
use Rattle.ff_plan.proofs.wires.add_demux_wires.Given as goal

abbrev pub invariant-loop-stream : goal.invariant-loop-stream
invariant-loop-stream l = l.wires.items ++ map (demux_wire_in l.firsts l.inputs l.streams) (drop l.stream-index l.read) ≡ l.initial.wires.items ++ map (demux_wire_in l.firsts l.inputs l.streams) l.read
