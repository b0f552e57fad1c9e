-- Items at rising times, and what is known of them up to a time that one of them has reached.
use Rattle.std.specs.Prelude.{◌≡◌, ℕ, suc, ◌<◌, ◌≤◌, Bool, true, false, ◌||◌, nat_le, nat_eq, List, [], ◌∷◌, ◌++◌, refl}
use Rattle.std.proofs.Common.{inl, inr, ap, ◌∙◌, arith}
use Rattle.std.proofs.lemmas.Bool.{lt-leb, leb-true, ne_eqb, eqb-true, or_cases, or_parts, or_left, or_right}
use Rattle.ff_fsync.specs.Synced.{some_of, last_of, later_of, pick, past}

-- each item starts after the one before, and none before this time
abbrev pub Rises : {A : Type 0} → (A → ℕ) → ℕ → List A → Type 0
Rises at lo [] = Unit {0}
Rises at lo (x ∷ xs) = (lo ≤ at x) × Rises at (suc (at x)) xs

module _ {A : Type 0} where
  pub some_append : (f : A → Bool) (xs ys : List A) → some_of f (xs ++ ys) ≡ (some_of f xs || some_of f ys)
  some_append f [] ys = refl
  some_append f (x ∷ xs) ys = at (f x) (some_append f xs ys)
    where
      at : (b : Bool) → some_of f (xs ++ ys) ≡ (some_of f xs || some_of f ys) → (b || some_of f (xs ++ ys)) ≡ ((b || some_of f xs) || some_of f ys)
      at true e = refl
      at false e = e

  later_append : (xs ys zs : List A) → later_of (later_of xs ys) zs ≡ later_of xs (later_of ys zs)
  later_append [] ys zs = refl
  later_append (x ∷ xs) ys zs = refl

  pub last_append : (f : A → Bool) (xs ys : List A) → last_of f (xs ++ ys) ≡ later_of (last_of f ys) (last_of f xs)
  last_append f [] ys = at (last_of f ys)
    where
      at : (zs : List A) → zs ≡ later_of zs []
      at [] = refl
      at (z ∷ zs) = refl
  last_append f (x ∷ xs) ys = ap (λ (zs : List A). later_of zs (pick (f x) x)) (last_append f xs ys) ∙ later_append (last_of f ys) (last_of f xs) (pick (f x) x)

  pub some_found : (f g : A → Bool) (xs : List A) → ((x : A) → f x ≡ true → g x ≡ true) → some_of f xs ≡ true → some_of g xs ≡ true
  some_found f g [] h e = cc
  some_found f g (x ∷ xs) h e = elim (or_cases (f x) (some_of f xs) e) as (λ _. some_of g (x ∷ xs) ≡ true) [
    | inl here ↦ or_left (g x) (some_of g xs) (h x here)
    | inr there ↦ or_right (g x) (some_of g xs) (some_found f g xs h there)
  ]

  pub none_found : (f : A → Bool) (xs : List A) → ((x : A) → f x ≡ false) → some_of f xs ≡ false
  none_found f [] h = refl
  none_found f (x ∷ xs) h = rw (h x) (none_found f xs h)

  pub none_last : (f : A → Bool) (xs : List A) → some_of f xs ≡ false → last_of f xs ≡ []
  none_last f [] e = refl
  none_last f (x ∷ xs) e = let b = or_parts (f x) (some_of f xs) e in rw (none_last f xs b.1, b.0) refl

  module _ (at : A → ℕ) where
    pub rises_from : (lo lo' : ℕ) (xs : List A) → lo' ≤ lo → Rises at lo xs → Rises at lo' xs
    rises_from lo lo' [] le r = tt
    rises_from lo lo' (x ∷ xs) le r = (omega (arith, r.0), r.1)

    pub rises_drop : (lo : ℕ) (xs ys : List A) → Rises at lo (xs ++ ys) → Rises at lo ys
    rises_drop lo [] ys r = r
    rises_drop lo (x ∷ xs) ys r = rises_from (suc (at x)) lo ys (omega (arith, r.0)) (rises_drop (suc (at x)) xs ys r.1)

    pub rises_take : (lo : ℕ) (xs ys : List A) → Rises at lo (xs ++ ys) → Rises at lo xs
    rises_take lo [] ys r = tt
    rises_take lo (x ∷ xs) ys r = (r.0, rises_take (suc (at x)) xs ys r.1)

    -- behind items that have reached a time, the others start later
    pub rises_past : (lo t : ℕ) (xs ys : List A) → Rises at lo (xs ++ ys) → some_of (λ x. nat_le t (at x)) xs ≡ true → Rises at (suc t) ys
    rises_past lo t [] ys r e = cc
    rises_past lo t (x ∷ xs) ys r e = elim (or_cases (nat_le t (at x)) (some_of (λ x. nat_le t (at x)) xs) e) as (λ _. Rises at (suc t) ys) [
      | inl here ↦ (let le = leb-true t (at x) here in rises_from (suc (at x)) (suc t) ys (omega (arith, le)) (rises_drop (suc (at x)) xs ys r.1))
      | inr there ↦ rises_past (suc (at x)) t xs ys r.1 there
    ]

    pub none_starts : (lo u : ℕ) (xs : List A) → Rises at lo xs → u < lo → some_of (λ x. nat_eq (at x) u) xs ≡ false
    none_starts lo u [] r lt = refl
    none_starts lo u (x ∷ xs) r lt = rw (ne_eqb (at x) u (λ e. omega (arith, e, r.0))) (none_starts (suc (at x)) u xs r.1 (omega (arith, r.0)))

    pub none_begun : (lo u : ℕ) (xs : List A) → Rises at lo xs → u < lo → some_of (λ x. nat_le (at x) u) xs ≡ false
    none_begun lo u [] r lt = refl
    none_begun lo u (x ∷ xs) r lt = rw (lt-leb (at x) u (omega (arith, r.0))) (none_begun (suc (at x)) u xs r.1 (omega (arith, r.0)))

    -- past: no item of xs is at or after its bound, and each is before it
    pub past_starts : (xs : List A) (t : ℕ) → some_of (λ x. nat_eq (at x) t) xs ≡ true → t < past at xs
    past_starts [] t e = cc
    past_starts (x ∷ xs) t e = elim (or_cases (nat_eq (at x) t) (some_of (λ x. nat_eq (at x) t) xs) e) as (λ _. t < past at (x ∷ xs)) [
      | inl here ↦ (let same : at x ≡ t = eqb-true (at x) t here in omega (arith, same))
      | inr there ↦ (let lt = past_starts xs t there in omega (arith, lt))
    ]

    pub past_reached : (xs : List A) (t : ℕ) → some_of (λ x. nat_le t (at x)) xs ≡ true → t < past at xs
    past_reached [] t e = cc
    past_reached (x ∷ xs) t e = elim (or_cases (nat_le t (at x)) (some_of (λ x. nat_le t (at x)) xs) e) as (λ _. t < past at (x ∷ xs)) [
      | inl here ↦ (let le = leb-true t (at x) here in omega (arith, le))
      | inr there ↦ (let lt = past_reached xs t there in omega (arith, lt))
    ]
