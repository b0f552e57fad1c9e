use Rattle.std.proofs.Common.{◌∙◌, ℤ, List, length, refl, sym, subst}
use Rattle.ff_flac_frame.specs.Prediction.{AllInDepth}
use Rattle.ff_flac_dec.specs.Channels.{left_right}
use Rattle.ff_flac_dec.proofs.JoinLemmas.{channels_fit, samples_fit}
use Rattle.ff_flac_dec.proofs.stereo.left_and_right.Goals as goal

pub returns-then-not-all_fit-clause-out : goal.returns-then-not-all_fit-clause-out
returns-then-not-all_fit-clause-out c =
    let e = c.as_slice.ensures.value ∙ c.in_ok-samples.ensures.ok in
    λ k all.
    let fit = subst (λ (zs : List ℤ). AllInDepth c.args.depth zs) (sym e) (samples_fit c.args.depth (length c.args.first.now) (left_right c.args.form c.args.first.now c.args.second.now) all) in
    let t = c.if-not-all_fit.ensures.1 fit in cc

pub returns-clause-within : goal.returns-clause-within
returns-clause-within c =
    let e = c.as_slice.ensures.value ∙ c.in_ok-samples.ensures.ok in
    channels_fit c.args.depth c.args.form c.args.first.now c.args.second.now c.requires.same (subst (λ (zs : List ℤ). AllInDepth c.args.depth zs) e (c.if-not-all_fit.ensures.0 refl))
