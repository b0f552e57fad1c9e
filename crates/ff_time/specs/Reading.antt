-- Reading a duration letter by letter, with numbers of any size.
use Rattle.std.specs.Prelude.{ℕ, ◌+◌, ◌-◌, ◌*◌, ◌/◌, ◌^◌, ◌<◌, ◌≤◌, min, Bool, true, false, ◌&&◌, Option, Some, None, nat_lt, nat_le, ◌==◌, if◌then◌else◌}
use Rattle.ff_time.specs.declared.letter.Letter.{Letter}
use Rattle.ff_time.specs.declared.letter.Letter.TheVariants.{Digit, Colon, Point, S, M, U, Other}
use Rattle.ff_time.specs.declared.reading.Reading.{Reading}
use Rattle.ff_time.specs.declared.reading.Reading.TheVariants.{First, Second, Third, Decimals, Scaled, Whole}

-- what a byte is in a duration
abbrev pub letter_of : ℕ → Letter
letter_of b =
    if nat_le 48 b && nat_le b 57 then Digit (b - 48) else
    (if b == 58 then Colon else
    (if b == 46 then Point else
    (if b == 115 then S else
    (if b == 109 then M else
    (if b == 117 then U else Other)))))

-- a digit is below 10
abbrev pub IsDecimal : Letter → Type 0
IsDecimal (Digit d) = d < 10
IsDecimal Colon = Unit {0}
IsDecimal Point = Unit {0}
IsDecimal S = Unit {0}
IsDecimal M = Unit {0}
IsDecimal U = Unit {0}
IsDecimal Other = Unit {0}

-- How far a text was read. A number that may go on has its count of digits and its value so far.
pub data Exact : Type 0 where
  -- the first number
  first : ℕ → ℕ → Exact
  -- the first number, whether it may be minutes, and the number behind the colon
  second : ℕ → Bool → ℕ → ℕ → Exact
  -- minutes, and the seconds behind the second colon
  third : ℕ → ℕ → ℕ → Exact
  -- what stands before the point, whether a unit may follow, and the decimals
  decimals : ℕ → Bool → ℕ → ℕ → Exact
  -- the value of a text that lacks the `s` of its unit
  scaled : ℕ → Exact
  -- the value of a text that ends with its unit
  done : ℕ → Exact

-- k decimals behind a whole number, in microseconds
abbrev pub value_at : ℕ → ℕ → ℕ → ℕ → ℕ
value_at whole k m us = (whole * 10 ^ k + m) * us / 10 ^ k

-- where the test holds
abbrev pub if_some : Bool → Exact → Option Exact
if_some true r = Some r
if_some false r = None

-- behind the first number: more of it, minutes, decimals or a unit
abbrev pub first_next : ℕ → ℕ → Letter → Option Exact
first_next k n (Digit d) = Some (first (k + 1) (n * 10 + d))
first_next k n Colon = if_some (nat_lt 0 k && nat_le k 6) (second n (nat_le k 2 && nat_le n 59) 0 0)
first_next k n Point = if_some (nat_lt 0 k) (decimals n true 0 0)
first_next k n S = if_some (nat_lt 0 k) (done (n * 1000000))
first_next k n M = if_some (nat_lt 0 k) (scaled (n * 1000))
first_next k n U = if_some (nat_lt 0 k) (scaled n)
first_next k n Other = None

-- behind the second number: more of it, seconds, or the decimals of seconds
abbrev pub second_next : ℕ → Bool → ℕ → ℕ → Letter → Option Exact
second_next f minutes k n (Digit d) = if_some (nat_lt k 2 && nat_le (n * 10 + d) 59) (second f minutes (k + 1) (n * 10 + d))
second_next f minutes k n Colon = if_some (nat_lt 0 k) (third (60 * f + n) 0 0)
second_next f minutes k n Point = if_some (nat_lt 0 k && minutes) (decimals (60 * f + n) false 0 0)
second_next f minutes k n S = None
second_next f minutes k n M = None
second_next f minutes k n U = None
second_next f minutes k n Other = None

-- behind the seconds of a long clock
abbrev pub third_next : ℕ → ℕ → ℕ → Letter → Option Exact
third_next minutes k n (Digit d) = if_some (nat_lt k 2 && nat_le (n * 10 + d) 59) (third minutes (k + 1) (n * 10 + d))
third_next minutes k n Colon = None
third_next minutes k n Point = if_some (nat_lt 0 k) (decimals (60 * minutes + n) false 0 0)
third_next minutes k n S = None
third_next minutes k n M = None
third_next minutes k n U = None
third_next minutes k n Other = None

-- behind decimals: more of them, or a unit where one may stand
abbrev pub decimals_next : ℕ → Bool → ℕ → ℕ → Letter → Option Exact
decimals_next whole units k m (Digit d) = Some (decimals whole units (k + 1) (m * 10 + d))
decimals_next whole units k m Colon = None
decimals_next whole units k m Point = None
decimals_next whole units k m S = if_some (nat_lt 0 k && units) (done (value_at whole k m 1000000))
decimals_next whole units k m M = if_some (nat_lt 0 k && units) (scaled (value_at whole k m 1000))
decimals_next whole units k m U = if_some (nat_lt 0 k && units) (scaled (value_at whole k m 1))
decimals_next whole units k m Other = None

-- behind the first letter of `ms` or `us`
abbrev pub scaled_next : ℕ → Letter → Option Exact
scaled_next v (Digit d) = None
scaled_next v Colon = None
scaled_next v Point = None
scaled_next v S = Some (done v)
scaled_next v M = None
scaled_next v U = None
scaled_next v Other = None

-- reading goes on by a letter, or no duration does
abbrev pub next_of : Exact → Letter → Option Exact
next_of (first k n) letter = first_next k n letter
next_of (second f minutes k n) letter = second_next f minutes k n letter
next_of (third minutes k n) letter = third_next minutes k n letter
next_of (decimals whole units k m) letter = decimals_next whole units k m letter
next_of (scaled v) letter = scaled_next v letter
next_of (done v) letter = None

-- the value, where the text may end here
abbrev pub value_of : Exact → Option ℕ
value_of (first k n) = if nat_lt 0 k then Some (n * 1000000) else None
value_of (second f minutes k n) = if nat_lt 0 k && minutes then Some ((60 * f + n) * 1000000) else None
value_of (third minutes k n) = if nat_lt 0 k then Some ((60 * minutes + n) * 1000000) else None
value_of (decimals whole units k m) = if nat_lt 0 k then Some (value_at whole k m 1000000) else None
value_of (scaled v) = None
value_of (done v) = Some v

-- how many bytes are missing at least
abbrev pub missing_of : Exact → ℕ
missing_of (first k n) = if nat_lt 0 k then 0 else 1
missing_of (second f minutes k n) = if nat_lt 0 k then (if minutes then 0 else 2) else (if minutes then 1 else 3)
missing_of (third minutes k n) = if nat_lt 0 k then 0 else 1
missing_of (decimals whole units k m) = if nat_lt 0 k then 0 else 1
missing_of (scaled v) = 1
missing_of (done v) = 0

-- numbers are as small as their places want
abbrev pub IsSound : Exact → Type 0
IsSound (first k n) = Unit {0}
IsSound (second f minutes k n) = (k ≤ 2) × (n ≤ 59) × (n < 10 ^ k)
IsSound (third minutes k n) = (k ≤ 2) × (n ≤ 59) × (n < 10 ^ k)
IsSound (decimals whole units k m) = m < 10 ^ k
IsSound (scaled v) = Unit {0}
IsSound (done v) = Unit {0}

-- numbers are told apart up to one more than the greatest duration
abbrev pub cap : ℕ → ℕ
cap n = min 1000000000000001 n

-- the millionths in k decimals
abbrev pub millionths_of : ℕ → ℕ → ℕ
millionths_of k m = m * 1000000 / 10 ^ k

-- what the code keeps of it
abbrev pub shown : Exact → Reading
shown (first k n) = First (min 7 k) (cap n)
shown (second f minutes k n) = Second (cap f) minutes k n
shown (third minutes k n) = Third (cap minutes) k n
shown (decimals whole units k m) = Decimals (cap whole) units (min 6 k) (millionths_of k m)
shown (scaled v) = Scaled (cap v)
shown (done v) = Whole (cap v)
