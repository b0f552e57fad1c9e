-- By how many ticks items are to be later so that they end too late.
use Rattle.std.proofs.Common.{◌≡◌, ℕ, suc, ◌+◌, ◌-◌, ◌<◌, ◌≤◌, min, ℤ, pos, negsuc, ◌+ℤ◌, Bool, true, false, cond, nat_le, nat_lt}
use Rattle.std.proofs.Common.{refl, inl, inr, ap, sym, ◌∙◌, arith}
use Rattle.std.specs.Prelude.{◌==◌}
use Rattle.std.proofs.lemmas.Bool.{cases_lt}
use Rattle.std.proofs.lemmas.Bool.Decides.{nat_tests}
use Rattle.std.proofs.lemmas.Int.{ints}
use Rattle.ff_stream.specs.Times.{ticks}
use Rattle.ff_concat.specs.Concats.{time_later}
use Rattle.ff_concat.specs.laws.Late.{shifted}

-- two tests that say the same
pub le_lt : (a b c d : ℕ) → (a ≤ b → c < d) → (c < d → a ≤ b) → nat_le a b ≡ nat_lt c d
le_lt a b c d f g = elim (cases_lt c d) as (λ _. nat_le a b ≡ nat_lt c d) [
  | inl lt ↦ (
      let le = g lt in
      let x : nat_le a b ≡ true = grind (arith, nat_tests) in
      let y : nat_lt c d ≡ true = grind (arith, nat_tests) in
      x ∙ sym y
      )
  | inr ge ↦ (
      let no : b < a = elim (cases_lt b a) as (λ _. b < a) [
        | inl l ↦ l
        | inr le ↦ (let lt = f le in absurd (omega (arith, ge, lt)))
      ] in
      let x : nat_le a b ≡ false = grind (arith, nat_tests) in
      let y : nat_lt c d ≡ false = grind (arith, nat_tests) in
      x ∙ sym y
      )
]

-- a sum of a time and a length
pub ticks_forth : (a l : ℕ) → ticks (pos a +ℤ pos l) ≡ a + l
ticks_forth a l = ap ticks (let e : pos a +ℤ pos l ≡ pos (a + l) = omega (arith, ints) in e)

pub ticks_back : (a l : ℕ) → ticks (pos a +ℤ negsuc l) ≡ a - suc l
ticks_back a l = elim (cases_lt l a) as (λ _. ticks (pos a +ℤ negsuc l) ≡ a - suc l) [
  | inl lt ↦ ap ticks (let e : pos a +ℤ negsuc l ≡ pos (a - suc l) = omega (arith, ints, lt) in e)
  | inr ge ↦ ap ticks (let e : pos a +ℤ negsuc l ≡ negsuc (l - a) = omega (arith, ints, ge) in e) ∙ (let z : 0 ≡ a - suc l = omega (arith, ge) in z)
]

-- what doesn't end too late as it is
pub late_from : (last by r : ℕ) (t d : ℤ) → ticks (t +ℤ d) ≤ last → 1 ≤ r
    → (1 ≤ by → nat_le r by ≡ nat_lt last (ticks (time_later by t +ℤ d)))
    → nat_le r by ≡ nat_lt last (ticks (shifted by t +ℤ d))
late_from last by r t d le some h = at (by == 0) refl
  where
    at : (b : Bool) → (by == 0) ≡ b → nat_le r by ≡ nat_lt last (ticks (cond b t (time_later by t) +ℤ d))
    at true e =
        let z : by ≡ 0 = grind (arith, nat_tests) in
        le_lt r by last (ticks (t +ℤ d)) (λ l. absurd (omega (arith, some, l, z))) (λ lt. absurd (omega (arith, le, lt)))
    at false e = h (let o : 1 ≤ by = grind (arith, nat_tests) in o)

-- what ends before it starts, moved
pub back_end : (by s less : ℕ) (t d : ℤ) → s ≡ ticks t → pos less +ℤ d ≡ pos 0 → ticks (time_later by t +ℤ d) ≡ min (s + by) 9223372036854775807 - less
back_end by s less t (pos n) e z =
    let none : n ≡ 0 = omega (arith, ints, z) in
    let same : less ≡ 0 = omega (arith, ints, z) in
    ticks_forth (min (ticks t + by) 9223372036854775807) n ∙ omega (arith, none, same, e)
back_end by s less t (negsuc n) e z =
    let same : less ≡ suc n = omega (arith, ints, z) in
    ticks_back (min (ticks t + by) 9223372036854775807) n ∙ omega (arith, same, e)
