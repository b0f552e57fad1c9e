use Rattle.std.proofs.Common.{refl}
use Rattle.ff_filter.specs.Options.{is_video}
use Rattle.ff_filter.specs.Plain.{no_manual}
use Rattle.ff_filter.proofs.Configuring.{configured, made_of_both}
use Rattle.ff_vfilter.specs.HFlips.{IsHFlip, hflip_view}
use Rattle.ff_vfilter.proofs.hflip.HFlip.configure.Goals as goal

pub returns-in-Ok-clause-made : goal.returns-in-Ok-clause-made
returns-in-Ok-clause-made c =
    let args = c.args.args.now in
    let heads = c.args.heads.now in
    made_of_both (IsHFlip args heads) hflip_view (λ head. head) c.in-Ok.head c.machine_of.result _ _
    (configured is_video no_manual _ _ args heads c.video_settings.result c.in-Ok.head c.in-Ok._settings _ c.video_settings.ensures c.in-Ok.is refl) c.machine_of.ensures.view c.machine_of.ensures.heads
