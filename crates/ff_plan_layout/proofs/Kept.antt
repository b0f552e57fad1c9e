-- What filters keep of lists, by places.
use Rattle.std.proofs.Common.{◌≡◌, ℕ, zero, suc, ◌<◌, inl, inr, Bool, true, false, cond, List, [], ◌∷◌, map, length, slice_index_or, Option, Some, None, refl, sym, ap, ◌∙◌, subst, arith}
use Rattle.std.specs.Prelude.{slice_get, unwrap_or, ◌||◌}
use Rattle.std.specs.List.{position_or_len, filter, list_any}
use Rattle.ff_plan_layout.specs.Layout.{IsAmong}
use Rattle.ff_plan_layout.proofs.Among.{never}
use Rattle.ff_plan_layout.proofs.Tests.{hit, miss}

abbrev IsThere : {A : Type 0} → Option A → Type 0
IsThere None = ⊥
IsThere (Some x) = Unit {0}

pub nothing : {A : Type 0} (x : A) → ◌≡◌ {A = Option A} None (Some x) → ⊥
nothing {A} x e = subst (λ (o : Option A). IsThere o) (sym e) tt

pub same_some : {A : Type 0} (x y : A) → ◌≡◌ {A = Option A} (Some x) (Some y) → x ≡ y
same_some {A} x y e = ap (λ (o : Option A). unwrap_or o x) e

module _ {A : Type 0} where
  pub place_of : (x : A) (xs : List A) → IsAmong x xs → (i : ℕ) × (slice_get xs i ≡ Some x)
  place_of x [] i = absurd i
  place_of x (y ∷ ys) (inl e) = (0, ap (λ (z : A). Some z) e)
  place_of x (y ∷ ys) (inr i) = (let r = place_of x ys i in (suc r.0, r.1))

  pub among_at : (x : A) (xs : List A) (i : ℕ) → slice_get xs i ≡ Some x → IsAmong x xs
  among_at x [] i e = absurd (nothing x e)
  among_at x (y ∷ ys) zero e = inl (same_some y x e)
  among_at x (y ∷ ys) (suc i) e = inr (among_at x ys i e)

  pub below_at : (x : A) (xs : List A) (i : ℕ) → slice_get xs i ≡ Some x → i < length xs
  below_at x [] i e = absurd (nothing x e)
  below_at x (y ∷ ys) zero e = omega arith
  below_at x (y ∷ ys) (suc i) e = (let lt = below_at x ys i e in omega (arith, lt))

  pub at_below : (xs : List A) (i : ℕ) → i < length xs → (x : A) × (slice_get xs i ≡ Some x)
  at_below [] i lt = absurd (omega (arith, lt))
  at_below (x ∷ xs) zero lt = (x, refl)
  at_below (x ∷ xs) (suc i) lt = at_below xs i (omega (arith, lt))

  pub index_at : (xs : List A) (i : ℕ) (x d : A) → slice_get xs i ≡ Some x → slice_index_or xs i d ≡ x
  index_at [] i x d e = absurd (nothing x e)
  index_at (y ∷ ys) zero x d e = same_some y x e
  index_at (y ∷ ys) (suc i) x d e = index_at ys i x d e

  pub at_index : (xs : List A) (i : ℕ) (d : A) → i < length xs → slice_get xs i ≡ Some (slice_index_or xs i d)
  at_index [] i d lt = absurd (omega (arith, lt))
  at_index (x ∷ xs) zero d lt = refl
  at_index (x ∷ xs) (suc i) d lt = at_index xs i d (omega (arith, lt))

module _ {A : Type 0} (p : A → Bool) where
  keep : (x : A) (xs : List A) → p x ≡ true → filter p (x ∷ xs) ≡ x ∷ filter p xs
  keep x xs e = ap (λ (b : Bool). cond b (x ∷ filter p xs) (filter p xs)) e

  leave : (x : A) (xs : List A) → p x ≡ false → filter p (x ∷ xs) ≡ filter p xs
  leave x xs e = ap (λ (b : Bool). cond b (x ∷ filter p xs) (filter p xs)) e

  pub none_kept : (xs : List A) → ((j : ℕ) (y : A) → slice_get xs j ≡ Some y → p y ≡ false) → filter p xs ≡ []
  none_kept [] each = refl
  none_kept (x ∷ xs) each = leave x xs (each 0 x refl) ∙ none_kept xs (λ j y e. each (suc j) y e)

  pub one_kept : (xs : List A) (i : ℕ) (x : A) → slice_get xs i ≡ Some x → p x ≡ true
      → ((j : ℕ) (y : A) → slice_get xs j ≡ Some y → (j ≡ i → ⊥) → p y ≡ false) → filter p xs ≡ x ∷ []
  one_kept [] i x at pass others = absurd (nothing x at)
  one_kept (y ∷ ys) zero x at pass others =
      let same : y ≡ x = same_some y x at in
      keep y ys (ap p same ∙ pass)
      ∙ (ap (λ (l : List A). y ∷ l) (none_kept ys (λ j z e. others (suc j) z e (λ f. omega (arith, f)))) ∙ ap (λ (z : A). z ∷ []) same)
  one_kept (y ∷ ys) (suc i) x at pass others =
      leave y ys (others 0 y refl (λ f. omega (arith, f)))
      ∙ one_kept ys i x at pass (λ j z e other. others (suc j) z e (λ f. other (omega (arith, f))))

  pub first_place : (xs : List A) (i : ℕ) (x : A) → slice_get xs i ≡ Some x → p x ≡ true
      → ((j : ℕ) (y : A) → j < i → slice_get xs j ≡ Some y → p y ≡ false) → position_or_len p xs ≡ i
  first_place [] i x at pass before = absurd (nothing x at)
  first_place (y ∷ ys) zero x at pass before = hit p y ys (ap p (same_some y x at) ∙ pass)
  first_place (y ∷ ys) (suc i) x at pass before =
      let e = miss p y ys (before 0 y (omega arith) refl) in
      let r = first_place ys i x at pass (λ j z lt e. before (suc j) z (omega (arith, lt)) e) in
      omega (arith, e, r)

  passes_step : (y : A) (ys : List A) (i : ℕ) (x : A) (b : Bool) → p y ≡ b
      → ((j : ℕ) → slice_get ys j ≡ Some x → position_or_len p ys ≡ j → p x ≡ true)
      → slice_get (y ∷ ys) i ≡ Some x → position_or_len p (y ∷ ys) ≡ i → p x ≡ true
  passes_step y ys zero x true e rest at is = ap p (sym (same_some y x at)) ∙ e
  passes_step y ys (suc i) x true e rest at is = absurd (let z = hit p y ys e in omega (arith, z, is))
  passes_step y ys zero x false e rest at is = absurd (let m = miss p y ys e in omega (arith, m, is))
  passes_step y ys (suc i) x false e rest at is = rest i at (let m = miss p y ys e in omega (arith, m, is))

  pub place_passes : (xs : List A) (i : ℕ) (x : A) → slice_get xs i ≡ Some x → position_or_len p xs ≡ i → p x ≡ true
  place_passes [] i x at is = absurd (nothing x at)
  place_passes (y ∷ ys) i x at is = passes_step y ys i x (p y) refl (λ j a e. place_passes ys j x a e) at is

  any_step : (y : A) (ys : List A) (b : Bool) → p y ≡ b → (list_any p ys ≡ true → (j : ℕ) × (x : A) × (slice_get ys j ≡ Some x) × (p x ≡ true))
      → (b || list_any p ys) ≡ true → (j : ℕ) × (x : A) × (slice_get (y ∷ ys) j ≡ Some x) × (p x ≡ true)
  any_step y ys true e rest h = (0, y, refl, e)
  any_step y ys false e rest h = (let r = rest h in (suc r.0, r.1, r.2, r.3))

  pub any_there : (xs : List A) → list_any p xs ≡ true → (j : ℕ) × (x : A) × (slice_get xs j ≡ Some x) × (p x ≡ true)
  any_there [] h = absurd (never h)
  any_there (y ∷ ys) h = any_step y ys (p y) refl (any_there ys) h

module _ {A B : Type 0} where
  pub at_map : (f : A → B) (xs : List A) (i : ℕ) (y : B) → slice_get (map f xs) i ≡ Some y → (x : A) × (slice_get xs i ≡ Some x) × (f x ≡ y)
  at_map f [] i y e = absurd (nothing y e)
  at_map f (x ∷ xs) zero y e = (x, refl, same_some (f x) y e)
  at_map f (x ∷ xs) (suc i) y e = at_map f xs i y e

  pub map_at : (f : A → B) (xs : List A) (i : ℕ) (x : A) → slice_get xs i ≡ Some x → slice_get (map f xs) i ≡ Some (f x)
  map_at f [] i x e = absurd (nothing x e)
  map_at f (y ∷ ys) zero x e = ap (λ (z : A). Some (f z)) (same_some y x e)
  map_at f (y ∷ ys) (suc i) x e = map_at f ys i x e
