use Rattle.std.proofs.Common.{refl}
use Rattle.ff_filter.specs.Options.{is_sound}
use Rattle.ff_filter.specs.Plain.{no_manual}
use Rattle.ff_filter.proofs.Configuring.{configured}
use Rattle.ff_filter.proofs.SpreadLemmas.Configuring.{made_of_many}
use Rattle.ff_afilter.specs.Channels.{IsChannelSplit, channels_view, mono_heads}
use Rattle.ff_afilter.proofs.channel_split.ChannelSplit.configure.Goals as goal

pub returns-in-Ok-clause-made : goal.returns-in-Ok-clause-made
returns-in-Ok-clause-made c =
    let args = c.args.args.now in
    let heads = c.args.heads.now in
    made_of_many (IsChannelSplit args heads) channels_view mono_heads c.in-Ok.head c.channels_of.result _ _
    (configured is_sound no_manual _ _ args heads c.sound_settings.result c.in-Ok.head c.in-Ok._settings _ c.sound_settings.ensures c.in-Ok.is refl) c.channels_of.ensures.view c.channels_of.ensures.heads
