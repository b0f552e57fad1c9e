use Rattle.std.proofs.Common.{ℕ, ◌+◌, ◌==◌, Bool, sym, ap, ◌∙◌, arith}
use Rattle.ff_stream.specs.declared.edges.edge.Edge.{Edge}
use Rattle.ff_run_plan.proofs.Tally.{same_yes, same_no, tally_yes, tally_no}
use Rattle.ff_run_plan.proofs.lanes.count_out_of.Goals.{then-edges-k, else-edges-k}
use Rattle.ff_run_plan.proofs.lanes.count_out_of.Goals as goal

pub loop-k-preserved : goal.loop-k-preserved
loop-k-preserved c =
    let p : Edge → Bool = λ e. e.from == c.args.node in
    let was = c.loop-k.invariant in
    let few = was.few in
    let edges = c.args.edges.now in
    let k = c.loop-k.k in
    let edge = c.index-edges-k.result in
    elim c.if-edges-k.branch [
      | then-edges-k w ↦ record {
        so_far = w.count-is ∙ (ap (λ (n : ℕ). n + 1) was.so_far ∙ sym (tally_yes p edges k edge c.loop-k-test.true (same_yes _ _ w.if-edges-k.true)));
        few = (let is = w.count-is in omega (arith, is, few));
      }
      | else-edges-k w ↦ record {
        so_far = w.count-is ∙ (was.so_far ∙ sym (tally_no p edges k edge c.loop-k-test.true (same_no _ _ w.if-edges-k.false)));
        few = (let is = w.count-is in omega (arith, is, few));
      }
    ]
