use Rattle.std.proofs.Common.{◌≡◌, ℕ, ◌+◌, ◌<◌, ◌^◌, ◌∙◌, ap, arith, rules, ℤ, pos, get_or, length, w32}
use Rattle.std.specs.Prelude.{FitsSigned, ◌-ℤ◌}
use Rattle.std.specs.Int.{cast_signed, cast_unsigned}
use Rattle.std.proofs.lemmas.Int.{to_z-of_z}
use Rattle.std.proofs.lemmas.List.{length-set}
use Rattle.ff_flac_subframe.specs.Subframe.{magnitude}
use Rattle.ff_flac_subframe.proofs.Predict.{step_next, step_rest_small, step_end}
use Rattle.ff_flac_subframe.proofs.samples.step_each.Goals as goal

pub loop-i-preserved : goal.loop-i-preserved
loop-i-preserved c =
    let i : ℕ = c.loop-i.i in
    let y : ℤ = get_or c.loop-i.xs (i + 1) (pos 0) in
    let x : ℤ = get_or c.loop-i.xs i (pos 0) in
    let fy : FitsSigned w32 y = search rules in
    let fx : FitsSigned w32 x = search rules in
    let fits : FitsSigned w32 c.step.result = search rules in
    let is : c.step.result ≡ y -ℤ x = c.step.ensures ∙ ap (λ z. z -ℤ cast_signed w32 (cast_unsigned w32 x)) (to_z-of_z w32 y fy) ∙ ap (λ z. y -ℤ z) (to_z-of_z w32 x fx) in
    let next : i + 1 < length c.loop-i.xs = omega (arith, c.loop-i.invariant.len, c.saturating_sub-i-end.ensures) in
    record {
      len = length-set c.loop-i.xs i _ ∙ c.loop-i.invariant.len;
      small = step_rest_small (λ z. magnitude z < 2 ^ 30) c.loop-i.xs i _ c.loop-i.invariant.small;
      is = step_next c.loop-i.xs _ i _ next (to_z-of_z w32 c.step.result fits ∙ is) c.loop-i.invariant.is;
    }

pub returns-clause-is : goal.returns-clause-is
returns-clause-is c =
    step_end c.loop-i.xs _ c.loop-i.i (length c.args.xs.now) c.loop-i.invariant.len (omega (arith, c.saturating_sub-i-end.ensures)) c.loop-i.invariant.is
