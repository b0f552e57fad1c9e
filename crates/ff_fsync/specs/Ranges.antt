-- Tests of all numbers below one.
use Rattle.std.specs.Prelude.{◌≡◌, ℕ, zero, suc, ◌<◌, ◌⊎◌, Bool, true, false, ◌||◌, ◌&&◌, List, [], ◌++◌, refl}
use Rattle.std.proofs.Common.{inl, inr, ap, sym, ◌∙◌, subst, arith}
use Rattle.std.proofs.lemmas.Bool.{cases_Bool, and_parts, and_from, and_cases, or_cases, or_left, or_right, or_parts}

-- f says so of each port
abbrev pub all_to : ℕ → (ℕ → Bool) → Bool
all_to zero f = true
all_to (suc n) f = all_to n f && f n

-- f says so of some port
abbrev pub any_to : ℕ → (ℕ → Bool) → Bool
any_to zero f = false
any_to (suc n) f = any_to n f || f n

-- what f lists of each port, one after the other
abbrev pub list_to : {A : Type 0} → ℕ → (ℕ → List A) → List A
list_to zero f = []
list_to (suc n) f = list_to n f ++ f n

below_suc : (p n : ℕ) → p < suc n → (p ≡ n) ⊎ (p < n)
below_suc zero zero lt = inl refl
below_suc zero (suc n) lt = inr (omega arith)
below_suc (suc p) zero lt = absurd (omega arith)
below_suc (suc p) (suc n) lt = elim (below_suc p n (omega arith)) as (λ _. (suc p ≡ suc n) ⊎ (suc p < suc n)) [ inl e ↦ inl (ap suc e) | inr l ↦ inr (omega arith) ]

pub all_at : (n : ℕ) (f : ℕ → Bool) → all_to n f ≡ true → (p : ℕ) → p < n → f p ≡ true
all_at zero f e p lt = absurd (omega arith)
all_at (suc n) f e p lt = let b = and_parts (all_to n f) (f n) e in
    elim (below_suc p n lt) as (λ _. f p ≡ true) [ inl same ↦ subst (λ k. f k ≡ true) (sym same) b.1 | inr less ↦ all_at n f b.0 p less ]

pub all_from : (n : ℕ) (f : ℕ → Bool) → ((p : ℕ) → p < n → f p ≡ true) → all_to n f ≡ true
all_from zero f h = refl
all_from (suc n) f h = and_from (all_to n f) (f n) (all_from n f (λ p lt. h p (omega arith))) (h n (omega arith))

pub any_at : (n : ℕ) (f : ℕ → Bool) → any_to n f ≡ true → (p : ℕ) × (p < n) × (f p ≡ true)
any_at zero f e = cc
any_at (suc n) f e = elim (or_cases (any_to n f) (f n) e) as (λ _. (p : ℕ) × (p < suc n) × (f p ≡ true)) [
  | inl below ↦ (let r = any_at n f below in (r.0, omega (arith, r.1), r.2))
  | inr here ↦ (n, omega arith, here)
]

pub any_from : (n : ℕ) (f : ℕ → Bool) (p : ℕ) → p < n → f p ≡ true → any_to n f ≡ true
any_from zero f p lt e = absurd (omega arith)
any_from (suc n) f p lt e = elim (below_suc p n lt) as (λ _. any_to (suc n) f ≡ true) [
  | inl same ↦ or_right (any_to n f) (f n) (subst (λ k. f k ≡ true) same e)
  | inr less ↦ or_left (any_to n f) (f n) (any_from n f p less e)
]

-- it fails at some port
pub not_all : (n : ℕ) (f : ℕ → Bool) → all_to n f ≡ false → (p : ℕ) × (p < n) × (f p ≡ false)
not_all zero f e = cc
not_all (suc n) f e = elim (and_cases (all_to n f) (f n) e) as (λ _. (p : ℕ) × (p < suc n) × (f p ≡ false)) [
  | inl below ↦ (let r = not_all n f below in (r.0, omega (arith, r.1), r.2))
  | inr here ↦ (n, omega arith, here)
]

pub not_any : (n : ℕ) (f : ℕ → Bool) → any_to n f ≡ false → (p : ℕ) → p < n → f p ≡ false
not_any zero f e p lt = absurd (omega arith)
not_any (suc n) f e p lt = let b = or_parts (any_to n f) (f n) e in
    elim (below_suc p n lt) as (λ _. f p ≡ false) [ inl same ↦ subst (λ k. f k ≡ false) (sym same) b.1 | inr less ↦ not_any n f b.0 p less ]

pub none_from : (n : ℕ) (f : ℕ → Bool) → ((p : ℕ) → p < n → f p ≡ false) → any_to n f ≡ false
none_from n f h = elim (cases_Bool (any_to n f)) [
  | inl e ↦ (let r = any_at n f e in let clash : true ≡ false = sym r.2 ∙ h r.0 r.1 in cc)
  | inr e ↦ e
]

pub fails_from : (n : ℕ) (f : ℕ → Bool) (p : ℕ) → p < n → f p ≡ false → all_to n f ≡ false
fails_from n f p lt e = elim (cases_Bool (all_to n f)) [
  | inl h ↦ (let clash : true ≡ false = sym (all_at n f h p lt) ∙ e in cc)
  | inr h ↦ h
]

pub all_same : (n : ℕ) (f g : ℕ → Bool) → ((p : ℕ) → p < n → f p ≡ g p) → all_to n f ≡ all_to n g
all_same zero f g h = refl
all_same (suc n) f g h = rw (all_same n f g (λ p lt. h p (omega arith)), h n (omega arith)) refl

pub any_same : (n : ℕ) (f g : ℕ → Bool) → ((p : ℕ) → p < n → f p ≡ g p) → any_to n f ≡ any_to n g
any_same zero f g h = refl
any_same (suc n) f g h = rw (any_same n f g (λ p lt. h p (omega arith)), h n (omega arith)) refl

pub list_same : {A : Type 0} (n : ℕ) (f g : ℕ → List A) → ((p : ℕ) → p < n → f p ≡ g p) → list_to n f ≡ list_to n g
list_same zero f g h = refl
list_same (suc n) f g h = rw (list_same n f g (λ p lt. h p (omega arith)), h n (omega arith)) refl
