-- A coded number as it is read, byte by byte.
use Rattle.std.specs.Prelude.{◌≡◌, ℕ, zero, suc, ◌+◌, ◌-◌, ◌*◌, Bool, ◌||◌, ◌&&◌, if◌then◌else◌, nat_lt, nat_le, List, Result, Ok, Err}
use Rattle.ff_bits.specs.declared.reader.BitEnd.{BitEnd}
use Rattle.ff_bits.specs.declared.reader.BitEnd.TheVariants.{Short, BadNumber}
use Rattle.ff_bits.specs.Reading.{Answer, Done, More, Bad, Reader, ◌>>=◌, give, field}

-- what reading answered
abbrev pub Answers : Result ℕ BitEnd → Answer ℕ → List Bool → Type 0
Answers (Ok x) answer rest = answer ≡ Done x rest
Answers (Err Short) answer rest = answer ≡ More
Answers (Err BadNumber) answer rest = answer ≡ Bad

-- below the first, or from the second up to the third
abbrev pub is_within : ℕ → ℕ → ℕ → ℕ → Bool
is_within low from to byte = nat_lt byte low || (nat_lt byte to && nat_le from byte)

-- how many bytes follow this first one
unfoldable pub follow : ℕ → ℕ
follow byte =
    if nat_lt byte 0x80 then 0
    else if nat_lt byte 0xe0 then 1
    else if nat_lt byte 0xf0 then 2
    else if nat_lt byte 0xf8 then 3
    else if nat_lt byte 0xfc then 4
    else if nat_lt byte 0xfe then 5
    else 6

-- the bits of the value that stand in it
unfoldable pub opened : ℕ → ℕ
opened byte =
    if nat_lt byte 0x80 then byte
    else if nat_lt byte 0xe0 then byte - 0xc0
    else if nat_lt byte 0xf0 then byte - 0xe0
    else if nat_lt byte 0xf8 then byte - 0xf0
    else if nat_lt byte 0xfc then byte - 0xf8
    else if nat_lt byte 0xfe then byte - 0xfc
    else byte - 0xfe

-- the first byte isn't 10xxxxxx and isn't 11111111
abbrev pub first : Reader ℕ
first = field 8 (is_within 0x80 0xc0 0xff)

-- a further one is 10xxxxxx
abbrev pub further : Reader ℕ
further = field 8 (is_within 0 0x80 0xc0)

-- k further bytes behind a value
unfoldable pub sixes : ℕ → ℕ → Reader ℕ
sixes zero v = give v
sixes (suc k) v = further >>= λ byte. sixes k (v * 64 + (byte - 0x80))

unfoldable pub coded : Reader ℕ
coded = first >>= λ byte. sixes (follow byte) (opened byte)

-- The first byte of a coded number of at most 31 bits is below 11111110, and of one of at most 36 bits below 11111111.
abbrev pub of_31_bits : ℕ
of_31_bits = 0xfe

abbrev pub of_36_bits : ℕ
of_36_bits = 0xff

-- a coded number with a first byte below this end
unfoldable pub coded_below : ℕ → Reader ℕ
coded_below end = field 8 (is_within 0x80 0xc0 end) >>= λ byte. sixes (follow byte) (opened byte)
