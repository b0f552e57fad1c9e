-- Elements of lists.
use Rattle.std.proofs.Common.{◌≡◌, ◌≢◌, ℕ, zero, suc, ◌+◌, ◌<◌, ◌≤◌, ◌==◌, ◌&&◌, Bool, true, false, cond, List, [], ◌∷◌, ◌++◌, length, map, slice_get, slice_index_or}
use Rattle.std.proofs.Common.{slice_set, Option, None, Some, refl, ap, ◌∙◌, ◌⊎◌, inl, inr, arith}
use Rattle.std.proofs.lemmas.Bool.Decides.{nat_tests}

pub some_same : {A : Type 0} (x y : A) → Some x ≡ Some y → x ≡ y
some_same x y e = cc

pub no_some : {A B : Type 0} (x : A) → None ≡ Some x → B
no_some x e = cc

pub got_below : {A : Type 0} (xs : List A) (k : ℕ) (x : A) → slice_get xs k ≡ Some x → k < length xs
got_below [] k x e = no_some x e
got_below (y ∷ xs) zero x e = omega arith
got_below (y ∷ xs) (suc k) x e = let h = got_below xs k x e in omega arith

-- an element that is there
pub got : {A : Type 0} (xs : List A) (k : ℕ) → k < length xs → (x : A) × (slice_get xs k ≡ Some x)
got [] k lt = absurd (omega arith)
got (x ∷ xs) zero lt = (x, refl)
got (x ∷ xs) (suc k) lt = got xs k (omega arith)

-- or this one in its place
pub or_got : {A : Type 0} (xs : List A) (k : ℕ) (d x : A) → slice_get xs k ≡ Some x → slice_index_or xs k d ≡ x
or_got [] k d x e = no_some x e
or_got (y ∷ xs) zero d x e = some_same y x e
or_got (y ∷ xs) (suc k) d x e = or_got xs k d x e

pub or_none : {A : Type 0} (xs : List A) (k : ℕ) (d : A) → slice_get xs k ≡ None → slice_index_or xs k d ≡ d
or_none [] k d e = refl
or_none (y ∷ xs) zero d e = cc
or_none (y ∷ xs) (suc k) d e = or_none xs k d e

pub none_got : {A : Type 0} (xs : List A) (k : ℕ) → length xs ≤ k → slice_get xs k ≡ None
none_got [] k le = refl
none_got (x ∷ xs) zero le = absurd (omega arith)
none_got (x ∷ xs) (suc k) le = none_got xs k (omega arith)

pub got_above : {A : Type 0} (xs : List A) (k : ℕ) → slice_get xs k ≡ None → length xs ≤ k
got_above [] k e = omega arith
got_above (x ∷ xs) zero e = cc
got_above (x ∷ xs) (suc k) e = let h = got_above xs k e in omega (arith, h)

pub there_or_not : {A : Type 0} (o : Option A) → (o ≡ None) ⊎ ((x : A) × (o ≡ Some x))
there_or_not None = inl refl
there_or_not (Some x) = inr (x, refl)

-- of two lists, one behind the other
pub split : {A : Type 0} (xs ys : List A) (k : ℕ) (x : A) → slice_get (xs ++ ys) k ≡ Some x
    → (slice_get xs k ≡ Some x) ⊎ ((j : ℕ) × (k ≡ length xs + j) × (slice_get ys j ≡ Some x))
split [] ys k x e = let s : k ≡ 0 + k = omega arith in inr (k, s, e)
split (y ∷ xs) ys zero x e = inl e
split (y ∷ xs) ys (suc k) x e = elim (split xs ys k x e) as (λ _. (slice_get (y ∷ xs) (suc k) ≡ Some x)
    ⊎ ((j : ℕ) × (suc k ≡ length (y ∷ xs) + j) × (slice_get ys j ≡ Some x))) [
      | inl h ↦ inl h
      | inr h ↦ let a : k ≡ length xs + h.0 = h.1 in let s : suc k ≡ suc (length xs) + h.0 = omega arith in inr (h.0, s, h.2)
    ]

pub front : {A : Type 0} (xs ys : List A) (k : ℕ) (x : A) → slice_get xs k ≡ Some x → slice_get (xs ++ ys) k ≡ Some x
front [] ys k x e = no_some x e
front (y ∷ xs) ys zero x e = e
front (y ∷ xs) ys (suc k) x e = front xs ys k x e

pub back : {A : Type 0} (xs ys : List A) (j : ℕ) → slice_get (xs ++ ys) (length xs + j) ≡ slice_get ys j
back [] ys j = let s : 0 + j ≡ j = omega arith in ap (λ (n : ℕ). slice_get ys n) s
back (y ∷ xs) ys j = let s : suc (length xs) + j ≡ suc (length xs + j) = omega arith in ap (λ (n : ℕ). slice_get (y ∷ (xs ++ ys)) n) s ∙ back xs ys j

pub mapped : {A B : Type 0} (f : A → B) (xs : List A) (k : ℕ) (x : A) → slice_get xs k ≡ Some x → slice_get (map f xs) k ≡ Some (f x)
mapped f [] k x e = no_some x e
mapped f (y ∷ xs) zero x e = ap (λ z. Some (f z)) (some_same y x e)
mapped f (y ∷ xs) (suc k) x e = mapped f xs k x e

pub unmapped : {A B : Type 0} (f : A → B) (xs : List A) (k : ℕ) (y : B) → slice_get (map f xs) k ≡ Some y → (x : A) × (slice_get xs k ≡ Some x) × (f x ≡ y)
unmapped f [] k y e = no_some y e
unmapped f (x ∷ xs) zero y e = (x, refl, some_same (f x) y e)
unmapped f (x ∷ xs) (suc k) y e = unmapped f xs k y e

pub map_size : {A B : Type 0} (f : A → B) (xs : List A) → length (map f xs) ≡ length xs
map_size f [] = refl
map_size f (x ∷ xs) = ap (λ (n : ℕ). suc n) (map_size f xs)

-- a function of an element, or of the one in its place
pub map_or : {A B : Type 0} (f : A → B) (xs : List A) (k : ℕ) (d : A) → slice_index_or (map f xs) k (f d) ≡ f (slice_index_or xs k d)
map_or f [] k d = refl
map_or f (x ∷ xs) zero d = refl
map_or f (x ∷ xs) (suc k) d = map_or f xs k d

-- one element put in its place
pub set_here : {A : Type 0} (xs : List A) (k : ℕ) (x d : A) → k < length xs → slice_index_or (slice_set xs k x) k d ≡ x
set_here [] k x d lt = absurd (omega arith)
set_here (y ∷ xs) zero x d lt = refl
set_here (y ∷ xs) (suc k) x d lt = set_here xs k x d (omega arith)

pub set_there : {A : Type 0} (xs : List A) (k j : ℕ) (x d : A) → k ≢ j → slice_index_or (slice_set xs k x) j d ≡ slice_index_or xs j d
set_there [] k j x d n = refl
set_there (y ∷ xs) zero zero x d n = absurd (n refl)
set_there (y ∷ xs) zero (suc j) x d n = refl
set_there (y ∷ xs) (suc k) zero x d n = refl
set_there (y ∷ xs) (suc k) (suc j) x d n = set_there xs k j x d (λ e. n (ap (λ (m : ℕ). suc m) e))

pub set_size : {A : Type 0} (xs : List A) (k : ℕ) (x : A) → length (slice_set xs k x) ≡ length xs
set_size [] k x = refl
set_size (y ∷ xs) zero x = refl
set_size (y ∷ xs) (suc k) x = ap (λ (n : ℕ). suc n) (set_size xs k x)

-- tests
pub both : (a b : Bool) → (a && b) ≡ true → (a ≡ true) × (b ≡ true)
both true b e = (refl, e)
both false b e = cc

pub cond_some : {A : Type 0} (b : Bool) (o : Option A) (x : A) → cond b o None ≡ Some x → (b ≡ true) × (o ≡ Some x)
cond_some true o x e = (refl, e)
cond_some false o x e = no_some x e

pub is_it : (a b : ℕ) → (a == b) ≡ true → a ≡ b
is_it a b e = grind (arith, nat_tests)

pub it_is : (a b : ℕ) → a ≡ b → (a == b) ≡ true
it_is a b e = grind (arith, nat_tests)

pub isnt_it : (a b : ℕ) → (a ≢ b) → (a == b) ≡ false
isnt_it a b e = grind (arith, nat_tests)

pub same_or_not : (a b : ℕ) → (a ≡ b) ⊎ (a ≢ b)
same_or_not a b = pick (a == b) refl
  where
    pick : (t : Bool) → (a == b) ≡ t → (a ≡ b) ⊎ (a ≢ b)
    pick true e = inl (is_it a b e)
    pick false e = inr (λ h. let o : (a == b) ≡ true = it_is a b h in cc)
