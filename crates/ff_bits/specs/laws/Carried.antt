-- Words of 64 bits that stand for a message as far as it was read, while the longer sum is taken. Modulo x^16 + x^15 + x^2 + 1
-- the power x^1920 is x^1024 + x^64 + 1, so a word may go where it was added to those 14, 29 and 30 words behind it.
use Rattle.std.specs.Prelude.{ℕ, Bool, List, [], ◌∷◌, ◌++◌, bit_xor, take}
use Rattle.ff_bits.specs.Bits.{bits_of}
use Rattle.ff_bits.specs.Crc.{crc16_of}

-- the bits of words, the most significant bit of each first
unfoldable pub word_bits : List ℕ → List Bool
word_bits [] = []
word_bits (w ∷ words) = bits_of 64 w ++ word_bits words

-- the remainder of what the first thirty words stand for: each stands at its own place, and again 14 and 29 words behind it
-- where that is still among the thirty
unfoldable pub carried : List ℕ → ℕ
carried words =
    bit_xor (bit_xor (crc16_of (word_bits (take 30 words))) (crc16_of (word_bits (take 16 words)))) (crc16_of (word_bits (take 1 words)))
