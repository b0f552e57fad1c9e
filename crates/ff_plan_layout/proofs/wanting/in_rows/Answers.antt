use Rattle.std.proofs.Common.{List, true, false, sym, ap, ◌∙◌}
use Rattle.ff_plan_layout.specs.Pads.{Want, is_taken}
use Rattle.ff_plan_layout.specs.laws.Rows.{flat}
use Rattle.ff_plan_layout.proofs.Wants.{rows_next}
use Rattle.ff_plan_layout.proofs.wanting.in_rows.Goals as goal

pub returns-then-in_row : goal.returns-then-in_row
returns-then-in_row c =
    let k = c.args.stream.now in
    rows_next c.args.rows.now c.loop-row.row-index c.row-item.result k true (is_taken (flat c.args.rows.now) k) c.loop-row-test.true c.row-item.is
    (ap (λ (r : List Want). is_taken r k) (sym c.as_slice.ensures) ∙ (sym c.in_row.ensures ∙ c.if-in_row.true)) c.loop-row.invariant

pub loop-row-preserved : goal.loop-row-preserved
loop-row-preserved c =
    let k = c.args.stream.now in
    rows_next c.args.rows.now c.loop-row.row-index c.row-item.result k false (is_taken (flat c.args.rows.now) k) c.loop-row-test.true c.row-item.is
    (ap (λ (r : List Want). is_taken r k) (sym c.as_slice.ensures) ∙ (sym c.in_row.ensures ∙ c.if-in_row.false)) c.loop-row.invariant
