-- Texts as lists of bytes.
use Rattle.std.specs.Prelude.{ℕ, ◌-◌, List, [], ◌∷◌, ◌++◌, length, replicate}

-- a text at the right of so many places, behind blanks; a wider one takes its full width
abbrev pub right : ℕ → List ℕ → List ℕ
right width text = replicate (width - length text) 32 ++ text

-- a text as a line, which LF ends
abbrev pub line : List ℕ → List ℕ
line text = text ++ 10 ∷ []
