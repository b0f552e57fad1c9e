-- Whether all sources tell what is left, and all sinks that they hold nothing.
use Rattle.std.specs.Prelude.{ℕ, ◌&&◌, Bool, true, false, List, [], ◌∷◌, Option, Some, None}

abbrev pub tells_left : Option (List ℕ) → Bool
tells_left None = false
tells_left (Some bytes) = true

abbrev pub tells_empty : Option (List ℕ) → Bool
tells_empty None = false
tells_empty (Some []) = true
tells_empty (Some (b ∷ bs)) = false

abbrev pub all_tell : {T : Type 0} → (T → Bool) → List T → Bool
all_tell tells [] = true
all_tell tells (x ∷ xs) = tells x && all_tell tells xs

abbrev pub tell_all : {S K : Type 0} → (S → Option (List ℕ)) → (K → Option (List ℕ)) → List S → List K → Bool
tell_all left holds srcs snks = all_tell (λ s. tells_left (left s)) srcs && all_tell (λ k. tells_empty (holds k)) snks
