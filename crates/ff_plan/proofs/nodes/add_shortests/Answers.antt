use Rattle.std.proofs.Common.{ℕ, ◌+◌, ◌-◌, List, [], ◌∷◌, ◌++◌, map, sym, ap, ◌∙◌, append_assoc}
use Rattle.std.specs.List.{range_with_len}
use Rattle.ff_plan.specs.declared.planned.PlanNode.{PlanNode}
use Rattle.ff_plan.specs.declared.planned.PlanNode.TheVariants as node
use Rattle.ff_plan_layout.proofs.Filters.{range_next}
use Rattle.ff_plan.proofs.nodes.add_shortests.Goals as goal

pub loop-output-preserved : goal.loop-output-preserved
loop-output-preserved c =
    let o = c.loop-output.output in
    let front = c.loop-output.nodes.items in
    let rest = map (λ o. node.Shortest o) (range_with_len (o + 1) (c.args.outputs - (o + 1))) in
    ap (λ (l : List PlanNode). l ++ rest) c.in_ok-push.ensures.items
    ∙ (append_assoc front (node.Shortest o ∷ []) rest
    ∙ (ap (λ (r : List ℕ). front ++ map (λ o. node.Shortest o) r) (sym (range_next o c.args.outputs c.loop-output-test.true)) ∙ c.loop-output.invariant))
