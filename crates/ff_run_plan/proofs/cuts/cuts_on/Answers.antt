use Rattle.std.proofs.Common.{◌++◌, ◌∷◌, [], get_or, refl, ap, ◌∙◌, vec_items}
use Rattle.ff_trim.specs.declared.counted.OutputCut.{OutputCut}
use Rattle.ff_run_plan.specs.Cuts.{for_lane}
use Rattle.ff_run_plan.proofs.Cutting.{cut_more, cut_passed}
use Rattle.ff_run_plan.proofs.cuts.cuts_on.Goals.{then-number-edges+in_ok-push, else-number-edges}
use Rattle.ff_run_plan.proofs.cuts.cuts_on.Goals as goal

pub loop-k-preserved : goal.loop-k-preserved
loop-k-preserved c =
    let outputs = c.args.outputs.now in
    let nodes = c.args.nodes.now in
    let edges = c.args.edges.now in
    let numbers = c.args.numbers.now in
    let cuts = c.loop-k.cuts.items in
    let k = c.loop-k.k in
    let lt = c.loop-k-test.true in
    let was = c.loop-k.invariant in
    elim c.if-number-edges.branch [
      | then-number-edges+in_ok-push w ↦
          ap vec_items w.cuts-is ∙ (w.in_ok-push.ensures.items
          ∙ (ap (λ (t : OutputCut). cuts ++ t ∷ []) (w.for_lane.ensures ∙ ap (λ (t : OutputCut). for_lane w.index-edges-number.result.lane t) w.cut_at_end.ensures)
          ∙ cut_more outputs nodes edges numbers k lt (get_or numbers k 0) w.index-edges-number.result cuts refl w.if-number-edges.true w.index-edges-number.is was))
      | else-number-edges w ↦ ap vec_items w.cuts-is ∙ cut_passed outputs nodes edges numbers k lt (get_or numbers k 0) cuts refl w.if-number-edges.false was
    ]
