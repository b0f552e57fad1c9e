use Rattle.std.proofs.Common.{◌≡◌, ◌-◌, ◌++◌}
use Rattle.std.specs.List.{range_with_len}
use Rattle.ff_plan_layout.specs.Pads.{unlabelled}
use Rattle.ff_plan_layout.proofs.making.unlabelled.Given as goal

abbrev pub invariant-loop-graph : goal.invariant-loop-graph
invariant-loop-graph l = l.pads.items ++ unlabelled l.made (range_with_len l.graph (l.graphs - l.graph)) ≡ unlabelled l.made (range_with_len 0 l.graphs)
