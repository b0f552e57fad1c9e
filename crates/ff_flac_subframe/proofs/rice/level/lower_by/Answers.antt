use Rattle.std.proofs.Common.{◌≡◌, ◌∙◌, length, arith, ap, sym}
use Rattle.ff_flac_subframe.proofs.RiceLemmas.ColumnLemmas.{at_item}
use Rattle.ff_flac_subframe.proofs.rice.level.lower_by.Goals as goal

pub lower_each-requires : goal.lower_each-requires
lower_each-requires c =
    let loop = c.loop-costs in
    loop.invariant.len
    ∙ sym (at_item (λ costs. length costs ≡ length c.args.least.now) c.args.columns.now loop.costs-index c.costs-item.result (omega (arith, c.loop-costs-test.true))
    c.costs-item.is c.requires)
    ∙ sym (ap length c.deref.ensures.value)
