use Rattle.std.proofs.Common.{◌≡◌, ◌∙◌, ◌<◌, ap, arith, rules, ℕ, ℤ, pos, refl, get_or, length, w32}
use Rattle.std.specs.Prelude.{FitsSigned, ◌+ℤ◌}
use Rattle.std.specs.Int.{cast_signed, cast_unsigned}
use Rattle.std.proofs.lemmas.Int.{to_z-of_z}
use Rattle.std.proofs.lemmas.List.{length-set}
use Rattle.ff_flac_enc.specs.Layout.{half, mid_of}
use Rattle.ff_flac_enc.proofs.Choice.{both_next, both_end}
use Rattle.ff_flac_enc.proofs.sides.middles.Goals as goal

pub loop-i-init : goal.loop-i-init
unfolding mid_of
loop-i-init c = record { len = c.requires.count; is = refl }

pub loop-i-preserved : goal.loop-i-preserved
unfolding mid_of
loop-i-preserved c =
    let f : ℤ → ℤ → ℤ = λ x y. half (x +ℤ y) in
    let i : ℕ = c.loop-i.i in
    let x : ℤ = get_or c.args.left.now i (pos 0) in
    let y : ℤ = get_or c.args.right.now i (pos 0) in
    let fx : FitsSigned w32 x = search rules in
    let fy : FitsSigned w32 y = search rules in
    let fits : FitsSigned w32 c.middle.result = search rules in
    let is : c.middle.result ≡ f x y =
    c.middle.ensures ∙ ap (λ z. f z (cast_signed w32 (cast_unsigned w32 y))) (to_z-of_z w32 x fx) ∙ ap (f x) (to_z-of_z w32 y fy) in
    let len : length c.loop-i.mid ≡ length c.args.left.now = c.loop-i.invariant.len in
    let here : i < length c.args.left.now = omega (arith, len, c.loop-i-test.true) in
    record {
      len = length-set c.loop-i.mid i _ ∙ len;
      is = both_next f c.loop-i.mid c.args.left.now c.args.right.now i _ (omega (arith, here, len)) here (omega (arith, here, c.requires.len))
          (to_z-of_z w32 c.middle.result fits ∙ is) c.loop-i.invariant.is;
    }

pub returns : goal.returns
unfolding mid_of
returns c =
    let len : length c.loop-i.mid ≡ length c.args.left.now = c.loop-i.invariant.len in
    both_end (λ x y. half (x +ℤ y)) c.loop-i.mid c.args.left.now c.args.right.now c.loop-i.i (omega arith) (omega (arith, len)) (omega (arith, len)) c.loop-i.invariant.is
