-- Bytes as a list of bits, the most significant bit of each byte first (RFC 9639, section 5).
use Rattle.std.specs.Prelude.{ℕ, zero, suc, ◌+◌, ◌*◌, ◌/◌, ◌%◌, ◌^◌, ◌==◌, ◌-◌, Bool, true, false, List, [], ◌∷◌, ◌++◌}

abbrev pub digit : Bool → ℕ
digit true = 1
digit false = 0

-- the value of bits that stand behind a value
abbrev pub value_from : ℕ → List Bool → ℕ
value_from before [] = before
value_from before (b ∷ bits) = value_from (2 * before + digit b) bits

-- the value of bits, the most significant first
abbrev pub value_of : List Bool → ℕ
value_of bits = value_from 0 bits

-- the lowest n bits of a value, the most significant first
unfoldable pub bits_of : ℕ → ℕ → List Bool
bits_of zero v = []
bits_of (suc n) v = (v / 2 ^ n % 2 == 1) ∷ bits_of n v

-- the bits of bytes
unfoldable pub bits : List ℕ → List Bool
bits [] = []
bits (b ∷ bytes) = bits_of 8 b ++ bits bytes

-- how many bits fill up the last byte of so many
abbrev pub padding : ℕ → ℕ
padding n = (8 - n % 8) % 8
