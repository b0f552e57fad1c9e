-- Marks that are set from the last place down.
use Rattle.std.proofs.Common.{◌≡◌, ℕ, zero, suc, ◌+◌, ◌-◌, ◌*◌, ◌/◌, ◌%◌, ◌^◌, ◌<◌, ◌&&◌, Bool, true, false, nat_lt, nat_eq, not, sym, ap, ◌∙◌, arith, pow-suc}
use Rattle.std.specs.Int.{bit_at}
use Rattle.std.proofs.lemmas.Bool.Decides.{nat_tests}
use Rattle.std.proofs.lemmas.Nat.Bits.{bit_at_lowest, bit_at-suc, bit_at-zero}
use Rattle.ff_sched.specs.Bits.{mark_at}

-- the k last of so many places have a mark exactly where p isn't so, moved down to the first k
pub record AreMarks (p : ℕ → Bool) (count k marks : ℕ) : Type 0 where
  pub small : marks < 2 ^ k
  pub exact : (i : ℕ) → mark_at marks i ≡ (nat_lt i k && not (p (count - k + i)))

none_below : (i : ℕ) (b : Bool) → false ≡ (nat_lt i 0 && b)
none_below i b = grind (arith, nat_tests)

pub no_marks : (p : ℕ → Bool) (count : ℕ) → AreMarks p count 0 0
no_marks p count = record {
  small = omega arith;
  exact = λ i. ap (λ b. nat_eq b 1) (bit_at-zero i) ∙ none_below i (not (p (count - 0 + i)));
}

half : (m b : ℕ) → b < 2 → (2 * m + b) / 2 ≡ m
half m b lt = omega (arith, lt)

low : (m b : ℕ) → b < 2 → (2 * m + b) % 2 ≡ b
low m b lt = omega (arith, lt)

abbrev pub bit_of : Bool → ℕ
bit_of true = 0
bit_of false = 1

first_mark : (b : Bool) (n : ℕ) → n ≡ bit_of b → nat_eq n 1 ≡ not b
first_mark true n e = ap (λ m. nat_eq m 1) e
first_mark false n e = ap (λ m. nat_eq m 1) e

less_suc : (i k : ℕ) → nat_lt (suc i) (k + 1) ≡ nat_lt i k
less_suc i k = grind (arith, nat_tests)

some_below : (k : ℕ) (b : Bool) → b ≡ (nat_lt 0 (k + 1) && b)
some_below k b = grind (arith, nat_tests)

bit_small : (n : ℕ) (b : Bool) → n ≡ bit_of b → n < 2
bit_small n true e = omega (arith, e)
bit_small n false e = omega (arith, e)

pow_next : (k : ℕ) → 2 ^ (k + 1) ≡ 2 ^ k * 2
pow_next k = ap (λ n. 2 ^ n) (omega arith) ∙ pow-suc 2 k

pub next_mark : (p : ℕ → Bool) (count k marks last : ℕ) → k < count → AreMarks p count k marks → last ≡ bit_of (p (count - 1 - k)) → AreMarks p count (k + 1) (2 * marks + last)
next_mark p count k marks last lt old e = record {
  small = (let s = old.small in let w = pow_next k in let b = bit_small last (p (count - 1 - k)) e in omega (arith, s, w, b));
  exact = λ i. at_place i;
} where
  below : last < 2
  below = bit_small last (p (count - 1 - k)) e

  at_place : (i : ℕ) → mark_at (2 * marks + last) i ≡ (nat_lt i (k + 1) && not (p (count - (k + 1) + i)))
  at_place zero =
      ap (λ b. nat_eq b 1) (bit_at_lowest (2 * marks + last) ∙ low marks last below) ∙ (first_mark (p (count - 1 - k)) last e
      ∙ (ap (λ n. not (p n)) (omega (arith, lt)) ∙ some_below k (not (p (count - (k + 1) + 0)))))
  at_place (suc i) =
      ap (λ b. nat_eq b 1) (bit_at-suc (2 * marks + last) i ∙ ap (λ n. bit_at n i) (half marks last below)) ∙ (old.exact i
      ∙ (ap (λ n. nat_lt i k && not (p n)) (omega (arith, lt)) ∙ ap (λ b. b && not (p (count - (k + 1) + suc i))) (sym (less_suc i k))))
