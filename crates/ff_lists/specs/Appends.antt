-- What is added to bytes that may be known.
use Rattle.std.specs.Prelude.{◌≡◌, ℕ, List, ◌++◌, Option, Some, None, ⊤}

-- known bytes gain a prefix of these
abbrev pub AppendsPrefix : Option (List ℕ) → Option (List ℕ) → List ℕ → Type 0
AppendsPrefix None now bytes = ⊤
AppendsPrefix (Some before) None bytes = ⊥
AppendsPrefix (Some before) (Some now) bytes = (front rest : List ℕ) × (bytes ≡ front ++ rest) × (now ≡ before ++ front)
