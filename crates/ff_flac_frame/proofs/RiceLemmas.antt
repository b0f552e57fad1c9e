-- A residual that one word shows.
use Rattle.std.proofs.Common.{◌≡◌, ℕ, ◌+◌, ◌-◌, ◌*◌, ◌/◌, ◌^◌, ◌<◌, ◌≤◌, Bool, List, drop, refl, sym, ap, subst, ◌∙◌, arith, inl, inr}
use Rattle.std.specs.Prelude.{ℤ, Result, Ok, Err, IfOk, IfErr}
use Rattle.std.proofs.Math.Nat.{le-div_iff_mul-le}
use Rattle.std.proofs.lemmas.Nat.{pow_pos}
use Rattle.std.proofs.lemmas.Bool.{lt-ltb, le-ltb, cases_lt}
use Rattle.ff_bits.specs.Reading.{Done, Bad, zeros, field}
use Rattle.ff_bits.specs.laws.Reads.{IsCoded}
use Rattle.ff_bits.proofs.LimitedZeros.{zeros_ended, zeros_too_many}
use Rattle.ff_flac_frame.specs.declared.end.FrameEnd.{FrameEnd}
use Rattle.ff_flac_frame.specs.declared.end.FrameEnd.TheVariants.{Never}
use Rattle.ff_flac_frame.specs.laws.Gives.{Gives, Fails}
use Rattle.ff_flac_frame.specs.Codes.{below}
use Rattle.ff_flac_frame.specs.Frame.{residual_limit, quotient_limit, zigzag, rice}
use Rattle.ff_flac_frame.proofs.FieldLemmas.{took, refused}

quotient_within : (k q : ℕ) → q * 2 ^ k < residual_limit → q < quotient_limit k
unfolding quotient_limit
quotient_within k q h =
    let le : q ≤ (residual_limit - 1) / 2 ^ k = (le-div_iff_mul-le (pow_pos k)).1 (omega arith) in
    omega arith

quotient_positive : (k : ℕ) → 0 < quotient_limit k
unfolding quotient_limit
quotient_positive k = omega arith

module _ (k q low : ℕ) (bits rest : List Bool) (coded : IsCoded k bits q low rest) where
  behind : List Bool
  behind = drop (q + 1) bits

  zeros_read : q < quotient_limit k → zeros (quotient_limit k) bits ≡ Done q behind
  unfolding behind
  zeros_read lt =
      let none : 0 + q ≡ q = omega arith in
      let within = lt-ltb (0 + q) (quotient_limit k) (omega arith) in
      zeros_ended (quotient_limit k) 0 q bits behind (zeros (quotient_limit k) bits) (quotient_positive k) coded.0 refl within ∙ ap (λ (z : ℕ). Done z behind) none

  pub rice_read : q * 2 ^ k + low < residual_limit → rice k bits ≡ Done (zigzag (q * 2 ^ k + low)) rest
  unfolding rice behind
  rice_read h =
      let lt : q < quotient_limit k = quotient_within k q (omega arith) in
      let within = lt-ltb low (residual_limit - q * 2 ^ k) (omega arith) in
      let f : field k (below (residual_limit - q * 2 ^ k)) behind ≡ Done low rest =
      took k (below (residual_limit - q * 2 ^ k)) behind low rest coded.1.enough coded.1.value coded.1.left within in
      rw (zeros_read lt, f) refl

  pub rice_over : residual_limit ≤ q * 2 ^ k + low → rice k bits ≡ Bad
  unfolding rice behind
  rice_over h =
      elim (cases_lt q (quotient_limit k)) [
        | inl lt ↦
            let outside = le-ltb low (residual_limit - q * 2 ^ k) (omega arith) in
            let f : field k (below (residual_limit - q * 2 ^ k)) behind ≡ Bad =
            refused k (below (residual_limit - q * 2 ^ k)) behind low coded.1.enough coded.1.value outside in
            rw (zeros_read lt, f) refl
        | inr over ↦
            let outside = le-ltb (0 + q) (quotient_limit k) (omega arith) in
            let z : zeros (quotient_limit k) bits ≡ Bad =
            zeros_too_many (quotient_limit k) 0 q bits behind (zeros (quotient_limit k) bits) (quotient_positive k) coded.0 refl outside in
            rw z refl
      ]

-- a number that is this residual
pub rice_done : (k q low : ℕ) (bits rest : List Bool) (x : ℤ) → IsCoded k bits q low rest → (x ≡ zigzag (q * 2 ^ k + low)) × (q * 2 ^ k + low < residual_limit)
    → rice k bits ≡ Done x rest
rice_done k q low bits rest x coded value = rice_read k q low bits rest coded value.1 ∙ ap (λ (z : ℤ). Done z rest) (sym value.0)

-- what the code's answer says of reading
pub rice_gives : (k q low : ℕ) (bits rest : List Bool) (result : Result ℤ FrameEnd) → IsCoded k bits q low rest
    → IfOk result (λ v. (v ≡ zigzag (q * 2 ^ k + low)) × (q * 2 ^ k + low < residual_limit)) → IfErr result (λ e. (e ≡ Never) × (residual_limit ≤ q * 2 ^ k + low))
    → Gives (λ v. v) result (rice k bits) rest
rice_gives k q low bits rest (Ok x) coded ok err = rice_done k q low bits rest x coded ok
rice_gives k q low bits rest (Err e) coded ok err = subst (λ (end : FrameEnd). Fails end (rice k bits)) (sym err.0) (rice_over k q low bits rest coded err.1)
