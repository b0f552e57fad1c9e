-- Lists of places, none of which is empty.
use Rattle.std.proofs.Common.{◌≡◌, List, [], ◌∷◌, ◌++◌, map, Option, Some, None, refl, length, arith}

-- an empty place isn't among them
pub no_empty : {A : Type 0} (front all : List A) (rest : List (Option A)) → map Some front ++ None ∷ rest ≡ map Some all → ⊥
no_empty [] [] rest e = absurd cc
no_empty [] (a ∷ bs) rest e = absurd cc
no_empty (x ∷ xs) [] rest e = absurd cc
no_empty {A} (x ∷ xs) (a ∷ bs) rest e = no_empty xs bs rest (let same : Some x ∷ (map Some xs ++ None ∷ rest) ≡ Some a ∷ map Some bs = e in cc)

-- those so far are all, where none is left
pub all_full : {A : Type 0} (front all : List A) → map Some front ++ [] ≡ map Some all → front ≡ all
all_full [] [] e = refl
all_full [] (a ∷ bs) e = absurd cc
all_full (x ∷ xs) [] e = absurd cc
all_full {A} (x ∷ xs) (a ∷ bs) e =
    let same : Some x ∷ (map Some xs ++ []) ≡ Some a ∷ map Some bs = e in
    let head : x ≡ a = cc in
    let tail : xs ≡ bs = all_full xs bs cc in
    cc

pub no_length : {A : Type 0} (xs : List A) → length xs ≡ 0 → xs ≡ []
no_length [] e = refl
no_length (x ∷ xs) e = absurd (omega (arith, e))
