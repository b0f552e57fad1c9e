use Rattle.std.proofs.Common.{◌∙◌, ap, refl, Ok, Result}
use Rattle.ff_frame.specs.declared.config.ConfigError.{ConfigError}
use Rattle.ff_frame.specs.declared.head.StreamHead.{StreamHead}
use Rattle.ff_frame.specs.declared.head.StreamHead.TheVariants.{Video}
use Rattle.ff_filter.specs.Options.{is_video}
use Rattle.ff_filter.proofs.Configuring.{configured, made_of_both, seen_as}
use Rattle.ff_vfilter.specs.declared.crop.CropSettings.{CropSettings}
use Rattle.ff_vfilter.specs.Crops.{IsCrop, crop_head, crop_view, crop_frame, crop_manual, crop_makes}
use Rattle.ff_vfilter.proofs.Resizing.{heads_as, crop_made, cropped_seen}
use Rattle.ff_vfilter.proofs.crop.Crop.configure.Goals as goal

pub returns-in-Some-clause-made : goal.returns-in-Some-clause-made
returns-in-Some-clause-made c =
    let args = c.args.args.now in
    let heads = c.args.heads.now in
    let part = c.in-Some.part in
    let v = c.in-Video in
    let head : StreamHead = Video v.tb v.format v.width v.height v.sar_num v.sar_den in
    let with_settings : StreamHead → Result (StreamHead × CropSettings) ConfigError = λ h. Ok (h, c.in-Ok.settings) in
    made_of_both (IsCrop args heads) crop_view crop_head (head, part) c.machine_of.result _ _
    (configured is_video crop_manual _ crop_makes args heads c.video_settings.result head c.in-Ok.settings _ c.video_settings.ensures (c.in-Ok.is ∙ ap with_settings v.is)
    (crop_made head v.tb v.format v.width v.height v.sar_num v.sar_den c.in-Ok.settings c.part_of.result part refl c.part_of.ensures c.in-Some.is))
    (seen_as c.machine_of.result _ _ _ (cropped_seen head c.sized-shown.result part.width part.height (crop_frame part) c.sized-shown.ensures) c.machine_of.ensures.view)
    (heads_as c.machine_of.result _ _ _ c.sized-shown.ensures c.machine_of.ensures.heads)
