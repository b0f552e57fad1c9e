-- One more element of a filter, and of numbers in a row.
use Rattle.std.proofs.Common.{◌≡◌, ℕ, suc, ◌+◌, ◌-◌, ◌<◌, Bool, true, false, cond, List, [], ◌∷◌, ◌++◌, refl, sym, ap, ◌∙◌, append_assoc, arith}
use Rattle.std.proofs.lemmas.List.{append-nil}
use Rattle.std.specs.List.{filter, range_with_len}

module _ {A : Type 0} where
  filter_cons : (p : A → Bool) (x : A) (xs : List A) → filter p (x ∷ xs) ≡ filter p (x ∷ []) ++ filter p xs
  filter_cons p x xs = step (p x) where
    step : (b : Bool) → cond b (x ∷ filter p xs) (filter p xs) ≡ cond b (x ∷ []) [] ++ filter p xs
    step true = refl
    step false = refl

  pub filter_next : (p : A → Bool) (front here : List A) (x : A) (xs whole : List A) → here ≡ front ++ filter p (x ∷ []) → front ++ filter p (x ∷ xs) ≡ whole → here ++ filter p xs ≡ whole
  filter_next p front here x xs whole e w =
      ap (λ (l : List A). l ++ filter p xs) e ∙ (append_assoc front (filter p (x ∷ [])) (filter p xs) ∙ (ap (λ (l : List A). front ++ l) (sym (filter_cons p x xs)) ∙ w))

pub range_next : (a n : ℕ) → a < n → range_with_len a (n - a) ≡ a ∷ range_with_len (a + 1) (n - (a + 1))
range_next a n lt = (let e : n - a ≡ suc (n - (a + 1)) = omega arith in ap (λ (k : ℕ). range_with_len a k) e)

module _ {A : Type 0} where
  pub kept_one : (p : A → Bool) (front : List A) (x : A) → p x ≡ true → front ++ x ∷ [] ≡ front ++ filter p (x ∷ [])
  kept_one p front x e = ap (λ (b : Bool). front ++ cond b (x ∷ []) []) (sym e)

  pub dropped_one : (p : A → Bool) (front : List A) (x : A) → p x ≡ false → front ≡ front ++ filter p (x ∷ [])
  dropped_one p front x e = sym (append-nil front) ∙ ap (λ (b : Bool). front ++ cond b (x ∷ []) []) (sym e)
