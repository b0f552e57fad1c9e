-- Cyclic redundancy checks as remainders of polynomials over the field of two elements (RFC 9639, sections 9.1.8 and
-- 9.3). A polynomial is a natural number whose binary digits are its coefficients, and a sum is an exclusive or.
use Rattle.std.specs.Prelude.{◌≡◌, ℕ, ◌*◌, ◌^◌, ◌<◌, Bool, if◌then◌else◌, nat_lt, List, [], ◌∷◌, bit_xor, false, replicate, ◌++◌}
use Rattle.ff_bits.specs.Bits.{value_of, bits_of}

-- the product of a quotient, its highest coefficient first, and a divisor, with what was multiplied before
abbrev pub product_from : ℕ → ℕ → List Bool → ℕ
product_from divisor before [] = before
product_from divisor before (b ∷ quotient) = product_from divisor (bit_xor (2 * before) (if b then divisor else 0)) quotient

abbrev pub product : ℕ → List Bool → ℕ
product divisor quotient = product_from divisor 0 quotient

-- the message times x^k is a multiple of the divisor, whose degree is k, and this remainder
abbrev pub IsRemainder : ℕ → ℕ → List Bool → ℕ → Type 0
IsRemainder divisor k message remainder =
    (remainder < 2 ^ k) × (quotient : List Bool) × (value_of message * 2 ^ k ≡ bit_xor (product divisor quotient) remainder)

-- a polynomial of degree k at most, less the divisor where it has that degree
abbrev pub reduced : ℕ → ℕ → ℕ → ℕ
reduced divisor k p = if nat_lt p (2 ^ k) then p else bit_xor p divisor

-- the remainder by long division, one coefficient of the message after the other
abbrev pub remainder_from : ℕ → ℕ → ℕ → List Bool → ℕ
remainder_from divisor k before [] = before
remainder_from divisor k before (b ∷ message) = remainder_from divisor k (reduced divisor k (bit_xor (2 * before) (if b then 2 ^ k else 0))) message

-- by x^8 + x^2 + x + 1, from a remainder of 0
unfoldable pub crc8_of : List Bool → ℕ
crc8_of message = remainder_from 0x107 8 0 message

-- by x^16 + x^15 + x^2 + 1, from a remainder of 0
unfoldable pub crc16_of : List Bool → ℕ
crc16_of message = remainder_from 0x18005 16 0 message

-- what a byte leaves with so many bytes of zeros behind it
unfoldable pub left_of : ℕ → ℕ → ℕ → ℕ → ℕ
left_of divisor k behind byte = remainder_from divisor k 0 (bits_of 8 byte ++ replicate (8 * behind) false)
