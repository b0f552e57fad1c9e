-- What is among the elements of a list.
use Rattle.std.proofs.Common.{◌≡◌, ℕ, zero, suc, ◌+◌, ◌<◌, ◌≤◌, ◌⊎◌, inl, inr, ◌||◌, Bool, true, false, cond, List, [], ◌∷◌, ◌++◌, map, length, refl, sym, ap, ◌∙◌, subst, arith}
use Rattle.std.specs.List.{position_or_len, AllByRecursion, filter, flat_map, list_any, range_with_len}
use Rattle.std.proofs.lemmas.Bool.Decides.{nat_tests}
use Rattle.ff_plan_layout.specs.Layout.{IsAmong}
use Rattle.ff_plan_layout.proofs.Tests.{hit, miss, same_or_above}

pub never : false ≡ true → ⊥
never e = grind (arith, nat_tests)

any_or : (a b : Bool) → (a ≡ true) ⊎ (b ≡ true) → (a || b) ≡ true
any_or true b h = refl
any_or false b (inl e) = absurd (never e)
any_or false b (inr e) = e

module _ {A : Type 0} where
  -- what holds of each element
  pub all_among : (P : A → Type 0) (xs : List A) → ((x : A) → IsAmong x xs → P x) → AllByRecursion P xs
  all_among P [] each = tt
  all_among P (x ∷ xs) each = (each x (inl refl), all_among P xs (λ y i. each y (inr i)))

  pub all_joined : (P : A → Type 0) (xs ys : List A) → AllByRecursion P xs → AllByRecursion P ys → AllByRecursion P (xs ++ ys)
  all_joined P [] ys a b = b
  all_joined P (x ∷ xs) ys a b = (a.0, all_joined P xs ys a.1 b)

  -- an element that passes
  pub any_among : (p : A → Bool) (x : A) (xs : List A) → IsAmong x xs → p x ≡ true → list_any p xs ≡ true
  any_among p x [] i e = absurd i
  any_among p x (y ∷ ys) (inl same) e = any_or (p y) (list_any p ys) (inl (ap p same ∙ e))
  any_among p x (y ∷ ys) (inr i) e = any_or (p y) (list_any p ys) (inr (any_among p x ys i e))

  place_step : (p : A → Bool) (y : A) (ys : List A) (b : Bool) → p y ≡ b → (b ≡ true) ⊎ (position_or_len p ys < length ys) → position_or_len p (y ∷ ys) < length (y ∷ ys)
  place_step p y ys true e h = (let z = hit p y ys e in omega (arith, z))
  place_step p y ys false e (inl f) = absurd (never f)
  place_step p y ys false e (inr lt) = (let m = miss p y ys e in omega (arith, m, lt))

  pub place_among : (p : A → Bool) (x : A) (xs : List A) → IsAmong x xs → p x ≡ true → position_or_len p xs < length xs
  place_among p x [] i e = absurd i
  place_among p x (y ∷ ys) (inl same) e = place_step p y ys (p y) refl (inl (ap p same ∙ e))
  place_among p x (y ∷ ys) (inr i) e = place_step p y ys (p y) refl (inr (place_among p x ys i e))

  -- what a filter keeps
  kept_step : (p : A → Bool) (x y : A) (ys : List A) (b : Bool) → p y ≡ b → ((y ≡ x) × (b ≡ true)) ⊎ IsAmong x (filter p ys) → IsAmong x (cond b (y ∷ filter p ys) (filter p ys))
  kept_step p x y ys true e (inl h) = inl h.0
  kept_step p x y ys true e (inr i) = inr i
  kept_step p x y ys false e (inl h) = absurd (never h.1)
  kept_step p x y ys false e (inr i) = i

  pub kept_among : (p : A → Bool) (x : A) (xs : List A) → IsAmong x xs → p x ≡ true → IsAmong x (filter p xs)
  kept_among p x [] i e = absurd i
  kept_among p x (y ∷ ys) (inl same) e = kept_step p x y ys (p y) refl (inl (same, ap p same ∙ e))
  kept_among p x (y ∷ ys) (inr i) e = kept_step p x y ys (p y) refl (inr (kept_among p x ys i e))

  was_step : (p : A → Bool) (x y : A) (ys : List A) (b : Bool) → p y ≡ b → IsAmong x (cond b (y ∷ filter p ys) (filter p ys)) → ((y ≡ x) × (p x ≡ true)) ⊎ IsAmong x (filter p ys)
  was_step p x y ys true e (inl same) = inl (same, sym (ap p same) ∙ e)
  was_step p x y ys true e (inr i) = inr i
  was_step p x y ys false e i = inr i

  pub was_among : (p : A → Bool) (x : A) (xs : List A) → IsAmong x (filter p xs) → IsAmong x xs × (p x ≡ true)
  was_among p x [] i = absurd i
  was_among p x (y ∷ ys) i = elim (was_step p x y ys (p y) refl i) [
    | inl h ↦ (inl h.0, h.1)
    | inr j ↦ (let r = was_among p x ys j in (inr r.0, r.1))
  ]

  pub among_left : (x : A) (xs ys : List A) → IsAmong x xs → IsAmong x (xs ++ ys)
  among_left x [] ys i = absurd i
  among_left x (y ∷ xs) ys (inl e) = inl e
  among_left x (y ∷ xs) ys (inr i) = inr (among_left x xs ys i)

  pub among_right : (x : A) (xs ys : List A) → IsAmong x ys → IsAmong x (xs ++ ys)
  among_right x [] ys i = i
  among_right x (y ∷ xs) ys i = inr (among_right x xs ys i)

  pub among_either : (x : A) (xs ys : List A) → IsAmong x (xs ++ ys) → IsAmong x xs ⊎ IsAmong x ys
  among_either x [] ys i = inr i
  among_either x (y ∷ xs) ys (inl e) = inl (inl e)
  among_either x (y ∷ xs) ys (inr i) = elim (among_either x xs ys i) [ inl j ↦ inl (inr j) | inr j ↦ inr j ]

module _ {A B : Type 0} where
  pub among_map : (f : A → B) (x : A) (xs : List A) → IsAmong x xs → IsAmong (f x) (map f xs)
  among_map f x [] i = absurd i
  among_map f x (y ∷ ys) (inl e) = inl (ap f e)
  among_map f x (y ∷ ys) (inr i) = inr (among_map f x ys i)

  -- what holds of each image
  pub all_map : (P : B → Type 0) (f : A → B) (xs : List A) → ((x : A) → IsAmong x xs → P (f x)) → AllByRecursion P (map f xs)
  all_map P f [] each = tt
  all_map P f (x ∷ xs) each = (each x (inl refl), all_map P f xs (λ y i. each y (inr i)))

  pub all_flat : (P : B → Type 0) (f : A → List B) (xs : List A) → ((x : A) → IsAmong x xs → AllByRecursion P (f x)) → AllByRecursion P (flat_map f xs)
  all_flat P f [] each = tt
  all_flat P f (x ∷ xs) each = all_joined P (f x) (flat_map f xs) (each x (inl refl)) (all_flat P f xs (λ y i. each y (inr i)))

  pub among_flat : (f : A → List B) (y : B) (x : A) (xs : List A) → IsAmong x xs → IsAmong y (f x) → IsAmong y (flat_map f xs)
  among_flat f y x [] i j = absurd i
  among_flat f y x (z ∷ zs) (inl e) j = among_left y (f z) (flat_map f zs) (subst (λ (v : A). IsAmong y (f v)) (sym e) j)
  among_flat f y x (z ∷ zs) (inr i) j = among_right y (f z) (flat_map f zs) (among_flat f y x zs i j)

pub in_range : (a n i : ℕ) → a ≤ i → i < a + n → IsAmong i (range_with_len a n)
in_range a zero i le lt = absurd (omega (arith, le, lt))
in_range a (suc n) i le lt = elim (same_or_above a i le) [ inl e ↦ inl e | inr above ↦ inr (in_range (a + 1) n i (omega (arith, above)) (omega (arith, lt))) ]

pub each_of : {A : Type 0} (P : A → Type 0) (x : A) (xs : List A) → AllByRecursion P xs → IsAmong x xs → P x
each_of P x [] all i = absurd i
each_of P x (y ∷ ys) all (inl e) = subst P e all.0
each_of P x (y ∷ ys) all (inr i) = each_of P x ys all.1 i

pub of_flat : {A B : Type 0} (f : A → List B) (y : B) (xs : List A) → IsAmong y (flat_map f xs) → (x : A) × IsAmong x xs × IsAmong y (f x)
of_flat f y [] i = absurd i
of_flat f y (x ∷ xs) i = elim (among_either y (f x) (flat_map f xs) i) [ inl j ↦ (x, inl refl, j) | inr j ↦ (let r = of_flat f y xs j in (r.0, inr r.1, r.2)) ]
