use Rattle.std.proofs.Common.{◌≡◌, ◌≤◌, ◌+◌, ◌-◌, ◌*◌, ◌^◌, ◌∙◌, ◌<◌, ℕ, ℤ, pos, ◌+ℤ◌, ◌*ℤ◌, drop, get_or, length, sym, ap, subst, arith, unsigned_abs, to_z, of_z}
use Rattle.std.specs.Int.{w32, w64}
use Rattle.ff_frame.specs.Audio.{FitsBits}
use Rattle.ff_flac_frame.specs.Prediction.{weighted}
use Rattle.ff_flac_frame.proofs.PredictionLemmas.{IsSmall-in_depth, small_same}
use Rattle.ff_flac_frame.proofs.LinearLemmas.{weighted_goes_on, sum_same}
use Rattle.ff_flac_frame.proofs.linear.weigh_behind.Goals as goal

pub loop-i-preserved : goal.loop-i-preserved
loop-i-preserved c =
    let x : ℤ = c.plus-sum.result in
    let p : ℤ = c.product.result in
    let small : unsigned_abs p ≤ 2 ^ 38 = c.product.ensures.bound in
    let p_same : to_z w64 (of_z w64 p) ≡ p = sum_same p (omega (arith, small)) in
    let term : unsigned_abs (to_z w64 (of_z w64 p)) ≤ 2 ^ 38 = subst (λ (z : ℤ). unsigned_abs z ≤ 2 ^ 38) (sym p_same) small in
    let bound : unsigned_abs x ≤ (c.loop-i.i - 1) * 2 ^ 38 + 2 ^ 38 = omega (arith, c.plus-sum.ensures.bound, term, c.loop-i.invariant.bound) in
    let same : to_z w64 (of_z w64 x) ≡ x = sum_same x (omega (arith, bound)) in
    let place : length c.args.xs.now - 1 - c.loop-i.i ≡ length c.args.xs.now - (c.loop-i.i + 1) = omega arith in
    let y : ℤ = get_or c.args.xs.now (length c.args.xs.now - 1 - c.loop-i.i) (pos 0) in
    let here : length c.args.xs.now - 1 - c.loop-i.i < length c.args.xs.now = omega arith in
    let in_depth : FitsBits 25 y = c.requires.within (length c.args.xs.now - 1 - c.loop-i.i) here in
    let sample : to_z w64 (of_z w64 (to_z w32 (of_z w32 y))) ≡ y = small_same y (IsSmall-in_depth 25 y (omega arith) in_depth) in
    let value = p_same ∙ c.product.ensures.value ∙ ap (λ (z : ℤ). get_or c.args.coefs.now c.loop-i.i (pos 0) *ℤ z) sample ∙ ap (λ (k : ℕ). get_or c.args.coefs.now c.loop-i.i (pos 0) *ℤ get_or c.args.xs.now k (pos 0)) place in
    let go = weighted_goes_on c.args.coefs.now c.args.xs.now c.loop-i.i (to_z w64 c.loop-i.sum-bits) (to_z w64 (of_z w64 p)) _ (omega (arith, c.requires.order, c.loop-i-test.true)) value c.loop-i.invariant.total in
    record {
      total = ap (λ (z : ℤ). z +ℤ weighted (drop (c.loop-i.i + 1) c.args.coefs.now) (c.loop-i.i + 1 + 1) c.args.xs.now) (same ∙ c.plus-sum.ensures.value) ∙ go;
      bound = subst (λ (z : ℤ). unsigned_abs z ≤ (c.loop-i.i + 1 - 1) * 2 ^ 38) (sym same) (omega (arith, bound));
    }
