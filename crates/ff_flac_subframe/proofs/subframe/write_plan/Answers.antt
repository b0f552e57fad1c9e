use Rattle.std.proofs.Common.{◌∙◌, ap, ◌++◌, ℤ, w32, rules}
use Rattle.std.specs.Prelude.{FitsSigned}
use Rattle.std.proofs.lemmas.Int.{to_z-of_z}
use Rattle.ff_flac_subframe.specs.Subframe.{subframe_bits, sample_bits, first_or_zero}
use Rattle.ff_flac_subframe.specs.laws.Plan.{spelling_of}
use Rattle.ff_flac_subframe.proofs.Plans.{two_parts, subframe-constant, subframe-verbatim}
use Rattle.ff_flac_subframe.proofs.subframe.write_plan.Goals as goal

pub returns-in_ok-put_sample-in-Constant : goal.returns-in_ok-put_sample-in-Constant
returns-in_ok-put_sample-in-Constant c =
    let x : ℤ = first_or_zero c.args.samples.now in
    let fits : FitsSigned w32 x = search rules in
    two_parts c.args.out.now c.put.new.self c.put_sample.new.out _ _ _ c.in_ok-put-in-Constant.ensures.ok
    (c.in_ok-put_sample-in-Constant.ensures ∙ ap (λ z. c.put.new.self ++ sample_bits c.args.depth z) (to_z-of_z w32 x fits))
    (ap (λ p. subframe_bits c.args.depth c.args.samples.now (spelling_of c.args.samples.now p)) c.in-Constant.is ∙ subframe-constant c.args.depth c.args.samples.now)

pub returns-in_ok-put_samples-in-Verbatim : goal.returns-in_ok-put_samples-in-Verbatim
returns-in_ok-put_samples-in-Verbatim c =
    two_parts c.args.out.now c.put-in-Verbatim.new.self c.put_samples.new.out _ _ _ c.in_ok-put-in-Verbatim.ensures.ok c.in_ok-put_samples-in-Verbatim.ensures
    (ap (λ p. subframe_bits c.args.depth c.args.samples.now (spelling_of c.args.samples.now p)) c.in-Verbatim.is ∙ subframe-verbatim c.args.depth c.args.samples.now)
