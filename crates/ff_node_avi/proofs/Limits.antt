-- Units up to the first one that passes a limit, one by one.
use Rattle.std.proofs.Common.{◌≡◌, ℕ, zero, suc, ◌+◌, ◌≤◌, Bool, true, false, cond, List, [], ◌∷◌, length, Some, refl, sym, ap, ◌∙◌, arith}
use Rattle.std.specs.Prelude.{slice_get}
use Rattle.ff_stream.specs.Within.{some_pass, before_pass}

module _ {A : Type 0} (passes : ℕ → A → Bool) where
  -- the next unit is there where it passes no limit
  pub units_get : (k : ℕ) (xs : List A) (n : ℕ) (x : A) → slice_get xs n ≡ Some x → n ≤ length (before_pass passes k xs)
      → passes (k + n) x ≡ false → slice_get (before_pass passes k xs) n ≡ Some x
  units_get k [] n x e le f = cc
  units_get k (y ∷ ys) zero x e le f =
      let same : y ≡ x = cc in
      let here : k + 0 ≡ k = omega arith in
      let short : passes k y ≡ false = ap (passes k) same ∙ (ap (λ (i : ℕ). passes i x) (sym here) ∙ f) in
      ap (λ (b : Bool). slice_get (cond b [] (y ∷ before_pass passes (k + 1) ys)) 0) short ∙ ap (λ (z : A). Some z) same
  units_get k (y ∷ ys) (suc n) x e le f = pick (passes k y) le (λ l. units_get (k + 1) ys n x e l (let i : (k + 1) + n ≡ k + suc n = omega arith in ap (λ (j : ℕ). passes j x) i ∙ f))
    where
      pick : (b : Bool) → suc n ≤ length (cond b [] (y ∷ before_pass passes (k + 1) ys))
          → (n ≤ length (before_pass passes (k + 1) ys) → slice_get (before_pass passes (k + 1) ys) n ≡ Some x)
          → slice_get (cond b [] (y ∷ before_pass passes (k + 1) ys)) (suc n) ≡ Some x
      pick true l h = absurd (omega arith)
      pick false l h = h (omega arith)

  -- all before it are the units, where it passes one
  pub units_stop : (k : ℕ) (xs : List A) (n : ℕ) (x : A) → slice_get xs n ≡ Some x → n ≤ length (before_pass passes k xs)
      → passes (k + n) x ≡ true
      → (n ≡ length (before_pass passes k xs)) × (some_pass passes k xs ≡ true)
  units_stop k [] n x e le t = cc
  units_stop k (y ∷ ys) zero x e le t =
      let same : y ≡ x = cc in
      let here : k + 0 ≡ k = omega arith in
      let long : passes k y ≡ true = ap (passes k) same ∙ (ap (λ (i : ℕ). passes i x) (sym here) ∙ t) in
      rw long (refl, refl)
  units_stop k (y ∷ ys) (suc n) x e le t = pick (passes k y) le (λ l. units_stop (k + 1) ys n x e l (let i : (k + 1) + n ≡ k + suc n = omega arith in ap (λ (j : ℕ). passes j x) i ∙ t))
    where
      pick : (b : Bool) → suc n ≤ length (cond b [] (y ∷ before_pass passes (k + 1) ys))
          → (n ≤ length (before_pass passes (k + 1) ys) → (n ≡ length (before_pass passes (k + 1) ys)) × (some_pass passes (k + 1) ys ≡ true))
          → (suc n ≡ length (cond b [] (y ∷ before_pass passes (k + 1) ys))) × (cond b true (some_pass passes (k + 1) ys) ≡ true)
      pick true l h = absurd (omega arith)
      pick false l h = let r = h (omega arith) in (let a = r.0 in omega (arith, a), r.1)

  -- none passes one, where all are there
  pub units_all : (k : ℕ) (xs : List A) (n : ℕ) → length xs ≡ n → n ≤ length (before_pass passes k xs) → (n ≡ length (before_pass passes k xs))
      × (some_pass passes k xs ≡ false)
  units_all k [] zero e le = (refl, refl)
  units_all k [] (suc n) e le = absurd (omega arith)
  units_all k (y ∷ ys) zero e le = absurd (omega arith)
  units_all k (y ∷ ys) (suc n) e le = pick (passes k y) le (λ l. units_all (k + 1) ys n (omega arith) l)
    where
      pick : (b : Bool) → suc n ≤ length (cond b [] (y ∷ before_pass passes (k + 1) ys))
          → (n ≤ length (before_pass passes (k + 1) ys) → (n ≡ length (before_pass passes (k + 1) ys)) × (some_pass passes (k + 1) ys ≡ false))
          → (suc n ≡ length (cond b [] (y ∷ before_pass passes (k + 1) ys))) × (cond b true (some_pass passes (k + 1) ys) ≡ false)
      pick true l h = absurd (omega arith)
      pick false l h = let r = h (omega arith) in (let a = r.0 in omega (arith, a), r.1)
