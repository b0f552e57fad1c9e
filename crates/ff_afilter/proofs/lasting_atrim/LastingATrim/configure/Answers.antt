use Rattle.std.proofs.Common.{refl, ap}
use Rattle.ff_stream.specs.declared.item.Lane.TheVariants.{Frames}
use Rattle.ff_filter.specs.declared.after.After.{After}
use Rattle.ff_filter.specs.Singles.{single_view}
use Rattle.ff_filter.proofs.Configuring.{made_of_both, seen_as}
use Rattle.ff_afilter.specs.declared.lasting_atrim.LastingATrim.{LastingATrim}
use Rattle.ff_afilter.specs.Trims.{IsATrim, atrim_view, sound_lasting}
use Rattle.ff_afilter.proofs.Trimming.{trim_refused, trim_configured}
use Rattle.ff_afilter.proofs.lasting_atrim.LastingATrim.configure.Goals as goal

pub returns-in-Err-clause-refused : goal.returns-in-Err-clause-refused
returns-in-Err-clause-refused c = trim_refused _ c.args.args.now c.args.heads.now c.sound_settings.result c.in-Err.error c.sound_settings.ensures c.in-Err.is refl refl refl

pub returns-in-Ok-clause-made : goal.returns-in-Ok-clause-made
returns-in-Ok-clause-made c =
    let args = c.args.args.now in
    let heads = c.args.heads.now in
    let head = c.in-Ok.head in
    let range = c.of-range.result in
    let ticks = c.ticks-lasting.result in
    let m : LastingATrim = record { trim = record { head = head; range = range }; lasting = ticks; near = c.ticks-lasting.ensures.near } in
    made_of_both (IsATrim args heads) atrim_view (λ m. m.trim.head) m c.machine_of.result _ _
    (trim_configured _ args heads c.sound_settings.result head c.in-Ok.settings m c.sound_settings.ensures c.in-Ok.is refl refl refl (m, refl, c.of-range.ensures, c.ticks-lasting.ensures.is, refl))
    (seen_as c.machine_of.result _ _ _ (ap (λ (a : After). single_view (Frames head) head (λ s. sound_lasting range ticks s) a) c.at_once-after.ensures) c.machine_of.ensures.view) c.machine_of.ensures.heads
