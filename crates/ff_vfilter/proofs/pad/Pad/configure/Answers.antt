use Rattle.std.proofs.Common.{◌∙◌, ap, refl, Ok, Result}
use Rattle.ff_frame.specs.declared.config.ConfigError.{ConfigError}
use Rattle.ff_frame.specs.declared.head.StreamHead.{StreamHead}
use Rattle.ff_frame.specs.declared.head.StreamHead.TheVariants.{Video}
use Rattle.ff_filter.specs.Options.{is_video}
use Rattle.ff_filter.proofs.Configuring.{configured, made_of_both, seen_as}
use Rattle.ff_vfilter.specs.declared.pad.PadSettings.{PadSettings}
use Rattle.ff_vfilter.specs.Pads.{IsPad, pad_head, pad_view, pad_manual, pad_makes, pad_of, can_pad}
use Rattle.ff_vfilter.proofs.Resizing.{heads_as, can_be, pad_made, padded_head, padded_seen}
use Rattle.ff_vfilter.proofs.pad.Pad.configure.Goals as goal

pub returns-in-Some-clause-made : goal.returns-in-Some-clause-made
returns-in-Some-clause-made c =
    let args = c.args.args.now in
    let heads = c.args.heads.now in
    let p = c.in-Some.paint in
    let v = c.in-Video in
    let head : StreamHead = Video v.tb v.format v.width v.height v.sar_num v.sar_den in
    let with_settings : StreamHead → Result (StreamHead × PadSettings) ConfigError = λ h. Ok (h, c.in-Ok.settings) in
    let m = pad_of head v.format v.width v.height c.in-Ok.settings in
    made_of_both (IsPad args heads) pad_view pad_head m c.machine_of.result _ _
    (configured is_video pad_manual _ pad_makes args heads c.video_settings.result head c.in-Ok.settings _ c.video_settings.ensures (c.in-Ok.is ∙ ap with_settings v.is)
    (pad_made head v.tb v.format v.width v.height v.sar_num v.sar_den c.in-Ok.settings refl (can_be p (can_pad m) c.in-Some.ensures.none)))
    (seen_as c.machine_of.result _ _ _ (padded_seen head c.sized-shown.result p.width p.height m.width m.height p.part m.part c.in-Some.ensures.some.0 c.in-Some.ensures.some.1 c.in-Some.ensures.some.2 c.sized-shown.ensures) c.machine_of.ensures.view)
    (heads_as c.machine_of.result _ _ _ (padded_head head c.sized-shown.result p.width p.height m.width m.height c.in-Some.ensures.some.0 c.in-Some.ensures.some.1 c.sized-shown.ensures) c.machine_of.ensures.heads)
