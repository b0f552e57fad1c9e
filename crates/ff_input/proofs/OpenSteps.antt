-- A list's item behind others, and none behind all.
use Rattle.std.proofs.Common.{◌≡◌, ℕ, suc, zero, List, [], ◌∷◌, ◌++◌, length, Some, None, ap, ◌∙◌, subst, arith, refl, append-nil}
use Rattle.std.specs.Prelude.{slice_get}
use Rattle.std.proofs.lemmas.Option.{slice_get_past}

-- item number length xs of xs followed by one more
pub get_behind : {A : Type 0} (xs : List A) (y : A) (ys : List A) (n : ℕ) → length xs ≡ n → slice_get (xs ++ y ∷ ys) n ≡ Some y
get_behind [] y ys n e = subst (λ k. slice_get (y ∷ ys) k ≡ Some y) e refl
get_behind (x ∷ xs) y ys zero e = cc
get_behind (x ∷ xs) y ys (suc n) e = get_behind xs y ys n (cc (e))

-- and of xs followed by none
pub get_past : {A : Type 0} (xs : List A) (n : ℕ) → length xs ≡ n → slice_get (xs ++ []) n ≡ None
get_past xs n e = ap (λ ys. slice_get ys n) (append-nil xs) ∙ slice_get_past xs n (omega (arith, e))
