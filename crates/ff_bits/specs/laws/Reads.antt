-- What reading at a list of bits answers: what was read, and the bits that are left.
use Rattle.std.specs.Prelude.{◌≡◌, ℕ, ◌+◌, ◌≤◌, List, Bool, true, false, ◌∷◌, ◌++◌, length, take, drop, replicate}
use Rattle.ff_bits.specs.Bits.{value_of}
use Rattle.ff_bits.specs.Number.{IsCode}

-- n bits are there, and this is their value
pub record IsTaken (n : ℕ) (bits : List Bool) (v : ℕ) (rest : List Bool) : Type 0 where
  pub enough : n ≤ length bits
  pub value : v ≡ value_of (take n bits)
  pub left : rest ≡ drop n bits

-- so many zeros, and a one
abbrev pub IsCounted : List Bool → ℕ → List Bool → Type 0
IsCounted bits zeros rest = bits ≡ replicate zeros false ++ true ∷ rest

-- so many zeros, a one, and n bits of this value
abbrev pub IsCoded : ℕ → List Bool → ℕ → ℕ → List Bool → Type 0
IsCoded n bits zeros v rest = IsCounted bits zeros (drop (zeros + 1) bits) × IsTaken n (drop (zeros + 1) bits) v rest

-- a coded number
abbrev pub IsNumber : List Bool → ℕ → List Bool → Type 0
IsNumber bits v rest = (code : List Bool) × IsCode code v × (bits ≡ code ++ rest)
