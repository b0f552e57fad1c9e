use Rattle.std.proofs.Common.{◌≡◌, ℕ, ◌+◌, Bool, true, false, get_or, sym, ap, ◌∙◌, arith}
use Rattle.ff_stream.specs.declared.edges.edge.Edge.{Edge}
use Rattle.ff_plan.specs.Numbers.{leads_between}
use Rattle.ff_run_plan.proofs.Tally.{tally_yes, tally_no}
use Rattle.ff_run_plan.proofs.lanes.streams_between.Goals.{then-leads_between, else-leads_between}
use Rattle.ff_run_plan.proofs.lanes.streams_between.Goals as goal

pub loop-k-preserved : goal.loop-k-preserved
loop-k-preserved c =
    let p : Edge → Bool = leads_between c.args.low c.args.high in
    let was = c.loop-k.invariant in
    let few = was.few in
    let edges = c.args.edges.now in
    let k = c.loop-k.k in
    let edge = c.index-edges-k.result in
    let passes : p (get_or edges k edge) ≡ c.leads_between.result = ap p (sym c.index-edges-k.is) ∙ sym c.leads_between.ensures in
    elim c.if-leads_between.branch [
      | then-leads_between w ↦
          let yes : p (get_or edges k edge) ≡ true = passes ∙ w.if-leads_between.true in
          record {
            so_far = w.count-is ∙ (ap (λ (n : ℕ). n + 1) was.so_far ∙ sym (tally_yes p edges k edge c.loop-k-test.true yes));
            few = (let is = w.count-is in omega (arith, is, few));
          }
      | else-leads_between w ↦
          let no : p (get_or edges k edge) ≡ false = passes ∙ w.if-leads_between.false in
          record {
            so_far = w.count-is ∙ (was.so_far ∙ sym (tally_no p edges k edge c.loop-k-test.true no));
            few = (let is = w.count-is in omega (arith, is, few));
          }
    ]
