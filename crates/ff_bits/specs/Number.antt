-- The coded number of a frame header (RFC 9639, section 9.1.5): the form of UTF-8, extended to 36 bits.
use Rattle.std.specs.Prelude.{◌≡◌, ℕ, zero, suc, ◌+◌, ◌-◌, ◌*◌, ◌/◌, ◌^◌, ◌<◌, ◌≤◌, Bool, true, false, if◌then◌else◌, nat_lt, List, [], ◌∷◌, ◌++◌, length, replicate}
use Rattle.ff_bits.specs.Bits.{bits_of}

-- the first byte, where k bytes follow: 0xxxxxxx where none does, else k + 1 ones, a zero and the value's highest bits
unfoldable pub first_byte : ℕ → ℕ → List Bool
first_byte zero v = false ∷ bits_of 7 v
first_byte (suc k) v = replicate (suc k + 1) true ++ false ∷ bits_of (5 - k) (v / 2 ^ (6 * suc k))

-- k bytes 10xxxxxx with the value's lowest 6 k bits
unfoldable pub further_bytes : ℕ → ℕ → List Bool
further_bytes zero v = []
further_bytes (suc k) v = true ∷ false ∷ bits_of 6 (v / 2 ^ (6 * k)) ++ further_bytes k v

-- how many bits of value there is room for, where k bytes follow
abbrev pub capacity : ℕ → ℕ
capacity zero = 7
capacity (suc k) = 6 + 5 * suc k

abbrev pub code_with : ℕ → ℕ → List Bool
code_with k v = first_byte k v ++ further_bytes k v

-- these bits are a coded number of this value, in any of its forms
abbrev pub IsCode : List Bool → ℕ → Type 0
IsCode code v = (k : ℕ) × (k ≤ 6) × (v < 2 ^ capacity k) × (code ≡ code_with k v)

-- these bits are a proper front of a coded number
abbrev pub IsPartOfCode : List Bool → Type 0
IsPartOfCode bits = (more : List Bool) × (v : ℕ) × (0 < length more) × IsCode (bits ++ more) v

-- no coded number begins these bits, whatever follows them
abbrev pub BeginsNoCode : List Bool → Type 0
BeginsNoCode bits = (more code rest : List Bool) (v : ℕ) → IsCode code v → bits ++ more ≡ code ++ rest → ⊥

-- the fewest further bytes that hold a value
abbrev pub fewest : ℕ → ℕ
fewest v =
    if nat_lt v (2 ^ 7) then 0
    else if nat_lt v (2 ^ 11) then 1
    else if nat_lt v (2 ^ 16) then 2
    else if nat_lt v (2 ^ 21) then 3
    else if nat_lt v (2 ^ 26) then 4
    else if nat_lt v (2 ^ 31) then 5
    else 6

-- the shortest coded number of a value
unfoldable pub shortest : ℕ → List Bool
shortest v = code_with (fewest v) v
