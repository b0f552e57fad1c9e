-- Tests of all numbers below one.
use Rattle.std.specs.Prelude.{◌≡◌, ℕ, zero, suc, ◌<◌, ◌≤◌, ◌⊎◌, Bool, true, false, ◌||◌, ◌&&◌, refl}
use Rattle.std.proofs.Common.{inl, inr, ap, sym, subst, arith}
use Rattle.std.proofs.lemmas.Bool.{cases_lt, and_parts, and_from, and_cases, or_cases, or_left, or_right}

-- f says so of each port
abbrev pub all_to : ℕ → (ℕ → Bool) → Bool
all_to zero f = true
all_to (suc n) f = all_to n f && f n

-- f says so of some port
abbrev pub any_to : ℕ → (ℕ → Bool) → Bool
any_to zero f = false
any_to (suc n) f = any_to n f || f n

below_suc : (p n : ℕ) → p < suc n → (p ≡ n) ⊎ (p < n)
below_suc zero zero lt = inl refl
below_suc zero (suc n) lt = inr (omega arith)
below_suc (suc p) zero lt = absurd (omega arith)
below_suc (suc p) (suc n) lt = elim (below_suc p n (omega arith)) as (λ _. (suc p ≡ suc n) ⊎ (suc p < suc n)) [ inl e ↦ inl (ap suc e) | inr l ↦ inr (omega arith) ]

pub all_at : (n : ℕ) (f : ℕ → Bool) → all_to n f ≡ true → (p : ℕ) → p < n → f p ≡ true
all_at zero f e p lt = absurd (omega arith)
all_at (suc n) f e p lt =
    let b = and_parts (all_to n f) (f n) e in
    elim (below_suc p n lt) as (λ _. f p ≡ true) [ inl same ↦ subst (λ k. f k ≡ true) (sym same) b.1 | inr less ↦ all_at n f b.0 p less ]

pub all_from : (n : ℕ) (f : ℕ → Bool) → ((p : ℕ) → p < n → f p ≡ true) → all_to n f ≡ true
all_from zero f h = refl
all_from (suc n) f h = and_from (all_to n f) (f n) (all_from n f (λ p lt. h p (omega arith))) (h n (omega arith))

pub any_at : (n : ℕ) (f : ℕ → Bool) → any_to n f ≡ true → (p : ℕ) × (p < n) × (f p ≡ true)
any_at zero f e = cc
any_at (suc n) f e = elim (or_cases (any_to n f) (f n) e) as (λ _. (p : ℕ) × (p < suc n) × (f p ≡ true)) [
  | inl below ↦ (let r = any_at n f below in (r.0, omega (arith, r.1), r.2))
  | inr here ↦ (n, omega arith, here)
]

pub any_from : (n : ℕ) (f : ℕ → Bool) (p : ℕ) → p < n → f p ≡ true → any_to n f ≡ true
any_from zero f p lt e = absurd (omega arith)
any_from (suc n) f p lt e = elim (below_suc p n lt) as (λ _. any_to (suc n) f ≡ true) [
  | inl same ↦ or_right (any_to n f) (f n) (subst (λ k. f k ≡ true) same e)
  | inr less ↦ or_left (any_to n f) (f n) (any_from n f p less e)
]

-- it fails at some port
pub not_all : (n : ℕ) (f : ℕ → Bool) → all_to n f ≡ false → (p : ℕ) × (p < n) × (f p ≡ false)
not_all zero f e = cc
not_all (suc n) f e = elim (and_cases (all_to n f) (f n) e) as (λ _. (p : ℕ) × (p < suc n) × (f p ≡ false)) [
  | inl below ↦ (let r = not_all n f below in (r.0, omega (arith, r.1), r.2))
  | inr here ↦ (n, omega arith, here)
]

-- a port at which a number is least
pub least_at : (n : ℕ) (c : ℕ → ℕ) → (p : ℕ) × (p < suc n) × ((q : ℕ) → q < suc n → c p ≤ c q)
least_at zero c = (0, omega arith, λ q lt. let e : 0 ≡ q = omega arith in let f : c 0 ≡ c q = ap c e in omega (arith, f))
least_at (suc n) c =
    let r = least_at n c in
    elim (cases_lt (c (suc n)) (c r.0)) as (λ _. (p : ℕ) × (p < suc (suc n)) × ((q : ℕ) → q < suc (suc n) → c p ≤ c q)) [
      | inl less ↦ (
        suc n,
        omega arith,
        λ q lt. elim (below_suc q (suc n) lt) as (λ _. c (suc n) ≤ c q) [
          | inl e ↦ (let f : c q ≡ c (suc n) = ap c e in omega (arith, f))
          | inr l ↦ (let m = r.2 q l in omega (arith, m, less))
        ],
      )
      | inr le ↦ (
        r.0,
        omega (arith, r.1),
        λ q lt. elim (below_suc q (suc n) lt) as (λ _. c r.0 ≤ c q) [
          | inl e ↦ (let f : c q ≡ c (suc n) = ap c e in omega (arith, f, le))
          | inr l ↦ r.2 q l
        ],
      )
    ]
