use Rattle.std.proofs.Common.{◌≡◌, ℤ, ◌+ℤ◌, to_z, of_z, sym, ap, subst, ◌∙◌, arith}
use Rattle.std.specs.Int.{w32, w64}
use Rattle.std.proofs.lemmas.Int.{ints, to_z-of_z}
use Rattle.ff_flac_frame.specs.laws.Bounds.{IsSmall}
use Rattle.ff_flac_frame.proofs.PredictionLemmas.{IsSmall-last, small_same64, wide_same}
use Rattle.ff_flac_frame.proofs.fixed.next_fixed.Goals as goal

pub returns-clause-value : goal.returns-clause-value
returns-clause-value c =
    let p = wide_same c.predict.result c.predict.ensures.bounded in
    let b = c.predict.ensures.bounded in
    let r : to_z w32 (of_z w32 c.args.r.now) ≡ c.args.r.now = to_z-of_z w32 c.args.r.now (omega (arith, ints)) in
    let r64 : to_z w64 (of_z w64 c.args.r.now) ≡ c.args.r.now = to_z-of_z w64 c.args.r.now (omega (arith, ints)) in
    rw (p, r, r64) (to_z-of_z w64 (c.predict.result +ℤ c.args.r.now) (omega (arith, ints)) ∙ ap (λ (y : ℤ). y +ℤ c.args.r.now) c.predict.ensures.value)

pub predict-requires-clause-small : goal.predict-requires-clause-small
predict-requires-clause-small c =
    let small = IsSmall-last c.args.depth c.args.xs.now c.args.last c.requires.depth c.requires.within c.requires.last in
    subst (λ (x : ℤ). IsSmall x) (sym (small_same64 c.args.last small)) small
