use Rattle.std.proofs.Common.{◌++◌, ◌∷◌, [], get_or, refl, ap, ◌∙◌, vec_items}
use Rattle.ff_stream.specs.declared.item.Lane.{Lane}
use Rattle.ff_run_plan.proofs.Tally.{lane_more, lane_passed}
use Rattle.ff_run_plan.proofs.lanes.lanes_of.Goals.{then-number-edges+in_ok-push, else-number-edges}
use Rattle.ff_run_plan.proofs.lanes.lanes_of.Goals as goal

pub loop-k-preserved : goal.loop-k-preserved
loop-k-preserved c =
    let edges = c.args.edges.now in
    let numbers = c.args.numbers.now in
    let lanes = c.loop-k.lanes.items in
    let k = c.loop-k.k in
    let lt = c.loop-k-test.true in
    let was = c.loop-k.invariant in
    elim c.if-number-edges.branch [
      | then-number-edges+in_ok-push w ↦
          ap vec_items w.lanes-is ∙ (w.in_ok-push.ensures.items ∙ (ap (λ (l : Lane). lanes ++ l ∷ []) w.copy.ensures
          ∙ lane_more edges numbers k lt (get_or numbers k 0) w.index-edges-number.result lanes refl w.if-number-edges.true was))
      | else-number-edges w ↦ ap vec_items w.lanes-is ∙ lane_passed edges numbers k lt (get_or numbers k 0) lanes refl w.if-number-edges.false was
    ]
