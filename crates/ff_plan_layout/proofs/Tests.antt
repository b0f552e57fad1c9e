-- Tests of numbers, and how one more element changes places and counts.
use Rattle.std.proofs.Common.{◌≡◌, ℕ, zero, suc, ◌+◌, ◌≤◌, ◌⊎◌, inl, inr, ◌==◌, Bool, true, false, not, cond, List, [], ◌∷◌, refl, ap, arith}
use Rattle.std.specs.List.{position_or_len}
use Rattle.std.proofs.lemmas.Bool.Decides.{nat_tests}
use Rattle.ff_stream.specs.edges.Ports.{tally}
use Rattle.ff_words.specs.declared.maps.streams.StreamRef.{StreamRef}
use Rattle.ff_plan_layout.specs.Layout.{same_ref}

pub hit : {A : Type 0} (p : A → Bool) (x : A) (xs : List A) → p x ≡ true → position_or_len p (x ∷ xs) ≡ 0
hit p x xs e = ap (λ (b : Bool). cond (not b) (1 + position_or_len p xs) 0) e

pub miss : {A : Type 0} (p : A → Bool) (x : A) (xs : List A) → p x ≡ false → position_or_len p (x ∷ xs) ≡ 1 + position_or_len p xs
miss p x xs e = ap (λ (b : Bool). cond (not b) (1 + position_or_len p xs) 0) e

pub tally_hit : {A : Type 0} (p : A → Bool) (x : A) (xs : List A) → p x ≡ true → tally p (x ∷ xs) ≡ suc (tally p xs)
tally_hit p x xs e = ap (λ (b : Bool). cond b (suc (tally p xs)) (tally p xs)) e

pub tally_miss : {A : Type 0} (p : A → Bool) (x : A) (xs : List A) → p x ≡ false → tally p (x ∷ xs) ≡ tally p xs
tally_miss p x xs e = ap (λ (b : Bool). cond b (suc (tally p xs)) (tally p xs)) e

pub same_or_above : (n p : ℕ) → n ≤ p → (n ≡ p) ⊎ (suc n ≤ p)
same_or_above zero zero le = inl refl
same_or_above zero (suc p) le = inr (omega arith)
same_or_above (suc n) zero le = absurd (omega (arith, le))
same_or_above (suc n) (suc p) le = elim (same_or_above n p (omega (arith, le))) [ inl e ↦ inl (ap suc e) | inr l ↦ inr (omega (arith, l)) ]

pub not_same : (a k : ℕ) → (a == k) ≡ false → a ≡ k → ⊥
not_same a k e f = grind (arith, nat_tests)

pub is_same : (a k : ℕ) → (a == k) ≡ true → a ≡ k
is_same a k e = grind (arith, nat_tests)

pub same_test : (a k : ℕ) → a ≡ k → (a == k) ≡ true
same_test a k e = grind (arith, nat_tests)

pub other_test : (a k : ℕ) → (a ≡ k → ⊥) → (a == k) ≡ false
other_test a k e = grind (arith, nat_tests)

pub same_self : (s : StreamRef) → same_ref s s ≡ true
same_self s = grind (arith, nat_tests)

pub nat_self : (i : ℕ) → (i == i) ≡ true
nat_self i = grind (arith, nat_tests)
