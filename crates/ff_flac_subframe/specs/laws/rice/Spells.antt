-- What the bits of a writer are to a reader.
use Rattle.std.specs.Prelude.{◌≡◌, Bool, List, ◌++◌}
use Rattle.ff_bits.specs.Reading.{Reader, Done}

-- whatever follows these bits, the reader takes them and gives this value
abbrev pub Reads : {A : Type 0} → Reader A → List Bool → A → Type 0
Reads r bits a = (rest : List Bool) → r (bits ++ rest) ≡ Done a rest
