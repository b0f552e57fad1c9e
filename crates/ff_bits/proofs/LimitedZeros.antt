-- Zeros below a limit, some of them read.
use Rattle.std.proofs.Common.{◌≡◌, ℕ, zero, suc, ◌+◌, ◌<◌, ◌≤◌, Bool, true, false, cond, ltb, List, ◌∷◌, ◌++◌, refl, sym, ap, ◌∙◌, arith, inl, inr}
use Rattle.std.specs.Prelude.{replicate}
use Rattle.std.proofs.lemmas.Bool.{lt-ltb, le-ltb, ltb-true, cases_lt}
use Rattle.ff_bits.specs.Reading.{Answer, Done, Bad, zeros_from}
use Rattle.ff_bits.proofs.Sound.{zeros-none}

-- past zeros that keep below the limit
pub zeros_past : (limit z m : ℕ) (rest : List Bool) → z + m ≤ limit → zeros_from limit z (replicate m false ++ rest) ≡ zeros_from limit (z + m) rest
zeros_past limit z zero rest h = let e : z ≡ z + 0 = omega arith in ap (λ (k : ℕ). zeros_from limit k rest) e
zeros_past limit z (suc m) rest h =
    let b : ltb z limit ≡ true = lt-ltb z limit (omega arith) in
    let e : z + 1 + m ≡ z + suc m = omega arith in
    ap (λ c. cond c (zeros_from limit (z + 1) (replicate m false ++ rest)) Bad) b ∙ zeros_past limit (z + 1) m rest (omega arith) ∙ ap (λ (k : ℕ). zeros_from limit k rest) e

-- with as many zeros as the limit says
pub zeros_over : (limit z m : ℕ) (rest : List Bool) → z ≤ limit → limit ≤ z + m → zeros_from limit z (replicate m false ++ rest) ≡ Bad
zeros_over limit z zero rest l h = zeros-none limit z rest (le-ltb z limit (omega arith))
zeros_over limit z (suc m) rest l h = elim (ltb z limit) as (λ b. ltb z limit ≡ b → cond b (zeros_from limit (z + 1) (replicate m false ++ rest)) Bad ≡ Bad) [
  | true ↦ λ e. zeros_over limit (z + 1) m rest (let k : z < limit = ltb-true z limit e in omega arith) (omega arith)
  | false ↦ λ e. refl
] refl

-- past zeros
pub zeros_moved : (limit z m : ℕ) (now rest : List Bool) (total : Answer ℕ) → z < limit → now ≡ replicate m false ++ rest → zeros_from limit z now ≡ total → zeros_from limit (z + m) rest ≡ total
zeros_moved limit z m now rest total l e so_far =
    elim (cases_lt limit (z + m)) [
      | inl over ↦ zeros-none limit (z + m) rest (le-ltb (z + m) limit (omega arith)) ∙ sym (zeros_over limit z m rest (omega arith) (omega arith)) ∙ ap (λ (xs : List Bool). zeros_from limit z xs) (sym e) ∙ so_far
      | inr within ↦ sym (zeros_past limit z m rest within) ∙ ap (λ (xs : List Bool). zeros_from limit z xs) (sym e) ∙ so_far
    ]

-- a one behind zeros
module _ (limit z m : ℕ) (now rest : List Bool) (total : Answer ℕ) (l : z < limit) (e : now ≡ replicate m false ++ true ∷ rest) (so_far : zeros_from limit z now ≡ total) where
  pub zeros_ended : ltb (z + m) limit ≡ true → total ≡ Done (z + m) rest
  zeros_ended b = sym (zeros_moved limit z m now (true ∷ rest) total l e so_far) ∙ ap (λ c. cond c (Done (z + m) rest) Bad) b

  pub zeros_too_many : ltb (z + m) limit ≡ false → total ≡ Bad
  zeros_too_many b = sym (zeros_moved limit z m now (true ∷ rest) total l e so_far) ∙ ap (λ c. cond c (Done (z + m) rest) Bad) b

pub zeros_end : (limit z : ℕ) (now : List Bool) (total : Answer ℕ) → limit ≤ z → zeros_from limit z now ≡ total → total ≡ Bad
zeros_end limit z now total h so_far = sym so_far ∙ zeros-none limit z now (le-ltb z limit h)
