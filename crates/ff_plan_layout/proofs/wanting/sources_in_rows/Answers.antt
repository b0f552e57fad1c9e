use Rattle.std.proofs.Common.{List, ap, ◌∙◌, subst, arith}
use Rattle.std.specs.List.{AllByRecursion}
use Rattle.ff_stream.specs.edges.Ports.{tally}
use Rattle.ff_plan_layout.specs.laws.Limits.{IsFewWants}
use Rattle.ff_plan_layout.specs.Pads.{Want, is_source}
use Rattle.ff_plan_layout.specs.laws.Rows.{flat}
use Rattle.ff_plan_layout.proofs.Fronts.{drop_next}
use Rattle.ff_plan_layout.proofs.Wants.{rows_counted}
use Rattle.ff_plan_layout.proofs.wanting.sources_in_rows.Goals as goal

pub loop-row-preserved : goal.loop-row-preserved
loop-row-preserved c =
    let p = is_source c.args.inputs in
    let rows = c.args.rows.now in
    let n = c.loop-row.row-index in
    record {
      rest = rows_counted p rows n c.row-item.result c.loop-row.count c.sources_in_row-count.result (tally p (flat rows)) c.loop-row-test.true c.row-item.is
          (c.sources_in_row-count.ensures.count ∙ ap (λ (r : List Want). tally p r) c.as_slice.ensures) c.loop-row.invariant.rest;
      few = (subst (λ (rs : List (List Want)). AllByRecursion IsFewWants rs) (drop_next rows n c.row-item.result c.loop-row-test.true) c.loop-row.invariant.few).1;
      low = (let a = c.sources_in_row-count.ensures.few in let b = c.loop-row.invariant.low in omega (arith, a, b));
    }
