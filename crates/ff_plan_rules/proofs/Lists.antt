-- What stands in lists, and how often.
use Rattle.std.proofs.Common.{◌≡◌, ℕ, zero, suc, ◌+◌, ◌≤◌, Bool, true, false, not, ◌||◌, cond, List, [], ◌∷◌, ◌++◌, map, None, Some, Result, Ok, Err, refl, sym, ap, subst, ◌∙◌, arith}
use Rattle.std.specs.Prelude.{slice_get}
use Rattle.std.specs.List.{AllByRecursion, filter, list_any}
use Rattle.std.specs.Str.{bytes_eq}
use Rattle.std.proofs.lemmas.Slice.Eq.{bytes_eq-Decides}
use Rattle.ff_stream.specs.edges.Ports.{tally}

pub never : true ≡ false → ⊥
never e = cc

pub some_same : {A : Type 0} (x y : A) → Some x ≡ Some y → x ≡ y
some_same x y e = cc

pub no_some : {A : Type 0} (x : A) → None ≡ Some x → ⊥
no_some x e = cc

pub same_ok : {X E : Type 0} (x y : X) → (let r : Result X E = Ok x in r) ≡ Ok y → x ≡ y
same_ok x y e = cc

pub no_ok : {X E : Type 0} (e : E) (x : X) → (let r : Result X E = Err e in r) ≡ Ok x → ⊥
no_ok e x h = cc

-- ---- each of a list

module _ {A : Type 0} (P : A → Type 0) where
  pub all_from : (xs : List A) → ((j : ℕ) (x : A) → slice_get xs j ≡ Some x → P x) → AllByRecursion P xs
  all_from [] each = tt
  all_from (x ∷ xs) each = (each 0 x refl, all_from xs (λ j y e. each (suc j) y e))

  pub all_at : (xs : List A) (j : ℕ) (x : A) → AllByRecursion P xs → slice_get xs j ≡ Some x → P x
  all_at [] j x all e = absurd (no_some x e)
  all_at (y ∷ xs) zero x all e = subst P (some_same y x e) all.0
  all_at (y ∷ xs) (suc j) x all e = all_at xs j x all.1 e

  pub all_joined : (xs ys : List A) → AllByRecursion P xs → AllByRecursion P ys → AllByRecursion P (xs ++ ys)
  all_joined [] ys all more = more
  all_joined (x ∷ xs) ys all more = (all.0, all_joined xs ys all.1 more)

pub all_more : {A : Type 0} (P Q : A → Type 0) (xs : List A) → ((x : A) → P x → Q x) → AllByRecursion P xs → AllByRecursion Q xs
all_more P Q [] each all = tt
all_more P Q (x ∷ xs) each all = (each x all.0, all_more P Q xs each all.1)

-- ---- how often

pub tally_joined : {A : Type 0} (p : A → Bool) (xs ys : List A) → tally p (xs ++ ys) ≡ tally p xs + tally p ys
tally_joined p [] ys = omega arith
tally_joined p (x ∷ xs) ys = step (p x) (tally_joined p xs ys) where
  step : (b : Bool) → tally p (xs ++ ys) ≡ tally p xs + tally p ys → cond b (suc (tally p (xs ++ ys))) (tally p (xs ++ ys)) ≡ cond b (suc (tally p xs)) (tally p xs) + tally p ys
  step true e = omega (arith, e)
  step false e = e

pub tally_map : {A B : Type 0} (p : B → Bool) (f : A → B) (xs : List A) → tally p (map f xs) ≡ tally (λ x. p (f x)) xs
tally_map p f [] = refl
tally_map p f (x ∷ xs) = ap (λ (n : ℕ). cond (p (f x)) (suc n) n) (tally_map p f xs)

pub tally_any : {A : Type 0} (p : A → Bool) (xs : List A) (j : ℕ) (x : A) → slice_get xs j ≡ Some x → p x ≡ true → 1 ≤ tally p xs
tally_any p [] j x e h = absurd (no_some x e)
tally_any p (y ∷ xs) zero x e h = step (p y) (ap p (some_same y x e) ∙ h) where
  step : (b : Bool) → b ≡ true → 1 ≤ cond b (suc (tally p xs)) (tally p xs)
  step true f = omega arith
  step false f = absurd (never (sym f))
tally_any p (y ∷ xs) (suc j) x e h = step (p y) (tally_any p xs j x e h) where
  step : (b : Bool) → 1 ≤ tally p xs → 1 ≤ cond b (suc (tally p xs)) (tally p xs)
  step true f = omega arith
  step false f = f

pub any_there : {A : Type 0} (p : A → Bool) (xs : List A) (j : ℕ) (x : A) → slice_get xs j ≡ Some x → p x ≡ true → list_any p xs ≡ true
any_there p [] j x e h = absurd (no_some x e)
any_there p (y ∷ xs) zero x e h = ap (λ (b : Bool). b || list_any p xs) (ap p (some_same y x e) ∙ h)
any_there p (y ∷ xs) (suc j) x e h = step (p y) (any_there p xs j x e h) where
  step : (b : Bool) → list_any p xs ≡ true → (b || list_any p xs) ≡ true
  step true f = refl
  step false f = f

-- ---- texts

pub same_text : (a b : List ℕ) → bytes_eq a b ≡ true → a ≡ b
same_text a b h = (bytes_eq-Decides a b).0 h

pub text_self : (a : List ℕ) → bytes_eq a a ≡ true
text_self a = (bytes_eq-Decides a a).1 refl

pub turn_text : (a b : List ℕ) → bytes_eq a b ≡ bytes_eq b a
turn_text a b = step (bytes_eq a b) (bytes_eq b a) refl refl where
  step : (x y : Bool) → bytes_eq a b ≡ x → bytes_eq b a ≡ y → x ≡ y
  step true true e f = refl
  step false false e f = refl
  step true false e f = absurd (never (sym ((bytes_eq-Decides b a).1 (sym (same_text a b e))) ∙ f))
  step false true e f = absurd (never (sym ((bytes_eq-Decides a b).1 (sym (same_text b a f))) ∙ e))

-- of those that fail a test, a label that passes it is none
pub tally_left : (label : List ℕ) (f : List ℕ → Bool) (ls : List (List ℕ)) → tally (bytes_eq label) (filter (λ l. not (f l)) ls) ≡ cond (f label) 0 (tally (bytes_eq label) ls)
tally_left label f [] = step (f label) where
  step : (b : Bool) → tally (bytes_eq label) [] ≡ cond b 0 (tally (bytes_eq label) [])
  step true = refl
  step false = refl
tally_left label f (l ∷ ls) = step (bytes_eq label l) (f l) (f label) refl refl refl (tally_left label f ls) where
  step : (b c d : Bool) → bytes_eq label l ≡ b → f l ≡ c → f label ≡ d
      → tally (bytes_eq label) (filter (λ t. not (f t)) ls) ≡ cond d 0 (tally (bytes_eq label) ls)
      → tally (bytes_eq label) (cond (not c) (l ∷ filter (λ t. not (f t)) ls) (filter (λ t. not (f t)) ls)) ≡ cond d 0 (cond b (suc (tally (bytes_eq label) ls)) (tally (bytes_eq label) ls))
  step true true true e g h was = was
  step true false false e g h was =
      ap (λ (b : Bool). cond b (suc (tally (bytes_eq label) (filter (λ t. not (f t)) ls))) (tally (bytes_eq label) (filter (λ t. not (f t)) ls))) e ∙ ap (λ (n : ℕ). suc n) was
  step true true false e g h was = absurd (never (sym g ∙ (ap f (sym (same_text label l e)) ∙ h)))
  step true false true e g h was = absurd (never (sym h ∙ (ap f (same_text label l e) ∙ g)))
  step false true d e g h was = was
  step false false d e g h was = ap (λ (b : Bool). cond b (suc (tally (bytes_eq label) (filter (λ t. not (f t)) ls))) (tally (bytes_eq label) (filter (λ t. not (f t)) ls))) e ∙ was
