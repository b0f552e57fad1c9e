use Rattle.std.proofs.Common.{arith}
use Rattle.ff_plan_layout.specs.Pads.{is_source}
use Rattle.ff_plan_layout.specs.laws.Rows.{flat}
use Rattle.ff_plan_layout.proofs.Counts.{tally_joined}
use Rattle.ff_plan_layout.proofs.wanting.sources_before.Goals as goal

pub returns : goal.returns
returns c =
    let j = tally_joined (is_source c.args.inputs) (flat c.args.rows.now) c.args.row.now in
    let a = c.sources_in_rows.ensures.count in
    let b = c.sources_in_row.ensures.count in
    omega (arith, j, a, b)
