use Rattle.std.proofs.Common.{inr, refl, subst}
use Rattle.ff_time.specs.Fraction.{Fraction}
use Rattle.ff_filter.specs.Options.{is_video, AreSet}
use Rattle.ff_filter.proofs.Configuring.{configured, refused, made_of_both}
use Rattle.ff_vfilter.specs.FpsOptions.{IsFps, fps_manual, fps_view, fps_head}
use Rattle.ff_vfilter.proofs.fps.Fps.configure.Goals as goal

pub returns-in-Err-clause-refused : goal.returns-in-Err-clause-refused
returns-in-Err-clause-refused c =
    let args = c.args.args.now in
    let heads = c.args.heads.now in
    let each : Fraction = record { num = 1; den = 25 } in
    let set = subst (λ (b : Fraction). AreSet is_video fps_manual (record { base = b }) args heads c.video_settings.result) c.one_over.ensures c.video_settings.ensures in
    inr (refused is_video fps_manual (record { base = each }) _ args heads c.video_settings.result c.in-Err.error set c.in-Err.is)

pub returns-in-Ok-clause-made : goal.returns-in-Ok-clause-made
returns-in-Ok-clause-made c =
    let args = c.args.args.now in
    let heads = c.args.heads.now in
    let each : Fraction = record { num = 1; den = 25 } in
    let set = subst (λ (b : Fraction). AreSet is_video fps_manual (record { base = b }) args heads c.video_settings.result) c.one_over.ensures c.video_settings.ensures in
    made_of_both (IsFps args heads) fps_view fps_head (c.in-Ok.head, c.in-Ok.settings.base) c.rate_and_head.result _ _
    (configured is_video fps_manual (record { base = each }) _ args heads c.video_settings.result c.in-Ok.head c.in-Ok.settings _ set c.in-Ok.is refl)
    c.rate_and_head.ensures.view c.rate_and_head.ensures.heads
