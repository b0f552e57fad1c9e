use Rattle.std.proofs.Common.{refl}
use Rattle.ff_filter.specs.Options.{is_sound}
use Rattle.ff_filter.proofs.Configuring.{configured}
use Rattle.ff_filter.specs.spread.Splits.{IsSplit, split_manual, split_view, split_heads}
use Rattle.ff_filter.proofs.SpreadLemmas.Configuring.{made_of_many}
use Rattle.ff_afilter.proofs.asplit.ASplit.configure.Goals as goal

pub returns-in-Ok-clause-made : goal.returns-in-Ok-clause-made
returns-in-Ok-clause-made c =
    let args = c.args.args.now in
    let heads = c.args.heads.now in
    made_of_many (IsSplit is_sound args heads) split_view split_heads (c.in-Ok.head, c.in-Ok.settings.outputs) c.copies_of.result _ _
    (configured is_sound split_manual _ _ args heads c.sound_settings.result c.in-Ok.head c.in-Ok.settings _ c.sound_settings.ensures c.in-Ok.is refl) c.copies_of.ensures.view c.copies_of.ensures.heads
