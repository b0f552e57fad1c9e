use Rattle.std.proofs.Common.{◌≡◌, ◌++◌, map, drop}
use Rattle.ff_plan.specs.Nodes.{start_node}
use Rattle.ff_plan.proofs.nodes.add_starts.Given as goal

abbrev pub invariant-loop-stream : goal.invariant-loop-stream
invariant-loop-stream l = l.nodes.items ++ map (start_node l.inputs) (drop l.stream-index l.streams) ≡ l.initial.nodes.items ++ map (start_node l.inputs) l.streams
