-- The Adler-32 sum of bytes (RFC 1950, section 2.2): the sum of the bytes, and the sum of the sums after each of them.
use Rattle.std.specs.Prelude.{ℕ, ◌+◌, ◌*◌, ◌%◌, List, [], ◌∷◌}

-- the sum of the bytes, from one on that it begins at
abbrev pub byte_sum : ℕ → List ℕ → ℕ
byte_sum a [] = a
byte_sum a (x ∷ xs) = byte_sum (a + x) xs

-- the sum of these sums, from one on that it begins at
abbrev pub sum_of_sums : ℕ → ℕ → List ℕ → ℕ
sum_of_sums a b [] = b
sum_of_sums a b (x ∷ xs) = sum_of_sums (a + x) (b + (a + x)) xs

-- both, each modulo 65,521; the standard begins the sum of bytes at 1
unfoldable pub adler32 : ℕ → List ℕ → ℕ
adler32 begun bytes = sum_of_sums begun 0 bytes % 65521 * 65536 + byte_sum begun bytes % 65521
