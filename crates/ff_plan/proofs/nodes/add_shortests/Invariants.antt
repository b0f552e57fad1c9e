use Rattle.std.proofs.Common.{◌≡◌, ◌-◌, ◌++◌, map}
use Rattle.std.specs.List.{range_with_len}
use Rattle.ff_plan.specs.declared.planned.PlanNode.TheVariants as node
use Rattle.ff_plan.proofs.nodes.add_shortests.Given as goal

abbrev pub invariant-loop-output : goal.invariant-loop-output
invariant-loop-output l = l.nodes.items ++ map (λ o. node.Shortest o) (range_with_len l.output (l.outputs - l.output)) ≡ l.initial.nodes.items ++ map (λ o. node.Shortest o) (range_with_len 0 l.outputs)
