-- What the texts of arguments give, as functions: times, and the time base of a rate.
use Rattle.std.specs.Prelude.{ℕ, zero, suc, ◌/◌, ◌%◌, ◌^◌, nat_le, nat_lt, ◌&&◌, Bool, if◌then◌else◌}
use Rattle.std.specs.Prelude.{Option, Some, None, List, [], ◌∷◌, length}
use Rattle.ff_time.specs.Digits.{ratio_of}
use Rattle.ff_time.specs.Fraction.{Fraction}
use Rattle.ff_time.specs.Reading.{Exact, first, letter_of, next_of, value_of}
use Rattle.ff_filter.specs.Options.{number_between}

-- f goes on from what is there
abbrev pub on_some : {A B : Type 0} → (A → Option B) → Option A → Option B
on_some f None = None
on_some f (Some x) = f x

-- how far a text is read behind what was read before it, if some duration goes on so
abbrev pub read_on : List ℕ → Exact → Option Exact
read_on [] r = Some r
read_on (b ∷ bs) r = on_some (read_on bs) (next_of r (letter_of b))

-- the microseconds of a duration
abbrev pub duration_of : List ℕ → Option ℕ
duration_of text = if nat_le (length text) 64 then on_some value_of (read_on text (first 0 0)) else None

-- a time of at most 10^15 microseconds
abbrev pub time_of : List ℕ → Option ℕ
time_of text = number_between 0 (10 ^ 15) (duration_of text)

-- the greatest common divisor, where b is at most the number of steps: each step makes it less
abbrev pub divisor_in : ℕ → ℕ → ℕ → ℕ
divisor_in zero a b = a
divisor_in (suc steps) a zero = a
divisor_in (suc steps) a (suc b) = divisor_in steps (suc b) (a % suc b)

abbrev pub divisor_of : ℕ → ℕ → ℕ
divisor_of a b = divisor_in b a b

-- n over d in lowest terms
abbrev pub lowest_of : ℕ → ℕ → Fraction
lowest_of n d = record { num = n / divisor_of n d; den = d / divisor_of n d }

abbrev pub is_small : Fraction → Bool
is_small f = nat_lt f.num (2 ^ 31) && nat_lt f.den (2 ^ 31)

-- one over n/d in lowest terms, where both are positive and the lowest terms below 2^31
abbrev pub base_of : ℕ × ℕ → Option Fraction
base_of r = if (nat_le 1 r.0 && nat_le 1 r.1) && is_small (lowest_of r.1 r.0) then Some (lowest_of r.1 r.0) else None

-- the time base of so many pictures a second
abbrev pub rate_base : List ℕ → Option Fraction
rate_base text = on_some base_of (ratio_of text)
