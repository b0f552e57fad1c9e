-- The map that a text is, read byte by byte.
use Rattle.std.specs.Prelude.{ℕ, Option, Some, None, List, [], ◌∷◌}
use Rattle.ff_words.specs.declared.maps.map.MapSpec.{MapSpec}
use Rattle.ff_words.specs.maps.Reading.{letter_of, start_next, byte_next, end_of}

-- with what was read, if reading goes on
abbrev pub goes_on : {S M : Type 0} → (S → Option M) → Option S → Option M
goes_on rest None = None
goes_on rest (Some s) = rest s

-- what is read of a text, where each byte makes one step
abbrev pub read_on : {S M : Type 0} → (S → ℕ → Option S) → (S → Option M) → List ℕ → S → Option M
read_on next end [] s = end s
read_on next end (b ∷ text) s = goes_on (read_on next end text) (next s b)

-- the map that a text is, if it is one
abbrev pub map_of : List ℕ → Option MapSpec
map_of [] = None
map_of (b ∷ text) = goes_on (read_on byte_next end_of text) (start_next (letter_of b))
