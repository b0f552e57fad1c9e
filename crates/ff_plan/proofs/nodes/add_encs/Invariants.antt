use Rattle.std.proofs.Common.{◌≡◌, ◌++◌, map, drop}
use Rattle.ff_plan_layout.specs.declared.layout.Placed.{Placed}
use Rattle.ff_plan.specs.declared.planned.PlanNode.TheVariants as node
use Rattle.ff_plan.proofs.nodes.add_encs.Given as goal

abbrev pub invariant-loop-one : goal.invariant-loop-one
invariant-loop-one l = l.nodes.items ++ map (λ (p : Placed). node.Enc p.output p.stream) (drop l.one-index l.placed) ≡ l.initial.nodes.items ++ map (λ (p : Placed). node.Enc p.output p.stream) l.placed
