-- What is written, and read, one piece after the other.
use Rattle.std.specs.Prelude.{◌≡◌, ℕ, ◌^◌, ◌<◌, Bool, List, [], ◌∷◌, ◌++◌}
use Rattle.ff_bits.specs.Bits.{bits_of}
use Rattle.ff_bits.specs.Number.{shortest}
use Rattle.ff_bits.specs.laws.Reads.{IsTaken, IsNumber}

-- a value in so many bits, or a coded number
pub data Piece : Type 0 where
  Field : (count value : ℕ) → Piece
  Coded : (value : ℕ) → Piece

abbrev pub value_in : Piece → ℕ
value_in (Field count value) = value
value_in (Coded value) = value

abbrev pub values_in : List Piece → List ℕ
values_in [] = []
values_in (p ∷ pieces) = value_in p ∷ values_in pieces

-- what the writer asks of it
abbrev pub IsWritable : Piece → Type 0
IsWritable (Field count value) = value < 2 ^ count
IsWritable (Coded value) = value < 2 ^ 36

abbrev pub AreWritable : List Piece → Type 0
AreWritable [] = Unit {0}
AreWritable (p ∷ pieces) = IsWritable p × AreWritable pieces

-- the bits that the writer adds
abbrev pub written_piece : Piece → List Bool
written_piece (Field count value) = bits_of count value
written_piece (Coded value) = shortest value

abbrev pub written_pieces : List Piece → List Bool
written_pieces [] = []
written_pieces (p ∷ pieces) = written_piece p ++ written_pieces pieces

-- the reader's call for a piece of this form gave this value at these bits, and left the rest
abbrev pub IsRead : Piece → List Bool → ℕ → List Bool → Type 0
IsRead (Field count value) bits v rest = IsTaken count bits v rest
IsRead (Coded value) bits v rest = IsNumber bits v rest

abbrev pub AreRead : List Piece → List Bool → List ℕ → List Bool → Type 0
AreRead [] bits [] rest = rest ≡ bits
AreRead [] bits (v ∷ values) rest = ⊥
AreRead (p ∷ pieces) bits [] rest = ⊥
AreRead (p ∷ pieces) bits (v ∷ values) rest = (left : List Bool) × IsRead p bits v left × AreRead pieces left values rest
