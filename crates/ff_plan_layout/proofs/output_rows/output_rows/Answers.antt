use Rattle.std.proofs.Common.{◌≡◌, ℕ, ◌+◌, ◌≤◌, List, [], ◌∷◌, ◌++◌, take, length, sym, ap, ◌∙◌, subst, arith}
use Rattle.std.proofs.lemmas.List.{length-take-le}
use Rattle.std.specs.Prelude.{Ok}
use Rattle.std.specs.List.{AllByRecursion}
use Rattle.ff_plan_layout.specs.declared.layout.InPad.{InPad}
use Rattle.ff_plan_layout.specs.Labels.{taken_labels}
use Rattle.ff_plan_layout.specs.laws.Picking.{inside_of, front_of, used_before}
use Rattle.ff_plan_layout.specs.LaidOut.{graphs_of, outputs_from}
use Rattle.ff_plan_layout.specs.Streams.{Passed, chosen, all_passed, front_with}
use Rattle.ff_plan_layout.proofs.Fronts.{all_more}
use Rattle.ff_plan_layout.proofs.Rowed.{from_output, row_next}
use Rattle.ff_plan_layout.proofs.output_rows.output_rows.Goals as goal

pub loop-output-preserved : goal.loop-output-preserved
loop-output-preserved g c =
    let rules = g.F.Filtering.rules c.args.filtering.now in
    let inside = inside_of c.args.ready.now in
    let graphs = c.args.ready.now.graphs.now in
    let outs = c.args.outs.now in
    let front = c.args.pads.now in
    let n = c.loop-output.output in
    let k = c.loop-output.number in
    let x = c.index-outs-output.result in
    let done = c.loop-output.rows.items in
    let ps = c.in_ok-row.row in
    let pads = c.in_ok-chosen.chosen.items in
    let earlier = take n outs in
    let le : n ≤ length outs = (let t = c.loop-output-test.true in omega (arith, t)) in
    let there : chosen inside x n (used_before graphs earlier) (front_of n front) ≡ Ok pads =
    ap (λ (m : ℕ). chosen inside x m (used_before graphs earlier) (front_of n front)) (sym (length-take-le n outs le))
    ∙ (ap (λ (b : List InPad). chosen inside x (length earlier) (used_before graphs earlier) b) (sym c.front.ensures) ∙ c.in_ok-chosen.ensures.made) in
    let through : all_passed rules x n k 0 pads ≡ Ok ps = ap (λ (is : List InPad). all_passed rules x n k 0 is) (sym c.as_slice.ensures.value) ∙ c.in_ok-row.ensures.made in
    let count : c.graphs_in-number.result ≡ graphs_of ps = c.graphs_in-number.ensures.count ∙ ap graphs_of c.as_slice-in-loop-output.ensures in
    let items = c.in_ok-add_row.ensures.items in
    let len = c.in_ok-add_row.ensures.len in
    let counted = c.loop-output.invariant.counted in
    let low = c.loop-output.invariant.low in
    let one = c.graphs_in-number.ensures.few in
    record {
      so_far =
          row_next rules inside graphs outs front n k x pads ps done (outputs_from rules inside 0 (length graphs) (taken_labels graphs) front outs) c.loop-output-test.true c.index-outs-output.is there through c.loop-output.invariant.so_far
          ∙ (ap (λ (m : ℕ). front_with (done ++ ps ∷ []) (from_output rules inside graphs outs front (n + 1) (k + m))) (sym count)
          ∙ ap (λ (l : List (List Passed)). front_with l (from_output rules inside graphs outs front (n + 1) (k + c.graphs_in-number.result))) (sym items));
      counted = omega (arith, len, counted);
      few = subst (λ (l : List (List Passed)). AllByRecursion (λ (row : List Passed). length row ≤ 16) l) (sym items) (all_more (λ (row : List Passed). length row ≤ 16) done ps c.loop-output.invariant.few c.in_ok-row.ensures.few);
      low = omega (arith, low, one);
    }
