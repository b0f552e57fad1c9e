-- Numbers in parameters.
use Rattle.std.specs.Prelude.{◌≡◌, ◌↔◌, ℕ, zero, suc, ◌+◌, ◌%◌, ◌/◌, ◌^◌, ◌==◌, ◌&&◌, ◌||◌, nat_le, nat_lt}
use Rattle.std.specs.Prelude.{if◌then◌else◌, List, [], ◌∷◌, take, drop, length, Option, Some, None, pos}
use Rattle.std.specs.Option.{option_map}
use Rattle.ff_time.specs.Digits.{digits_from}
use Rattle.ff_time.specs.Fraction.{Fraction, IsBase, IsLowestOf}

-- a whole number has 1 to 10 digits
unfoldable pub whole : List ℕ → Option ℕ
whole bs = if nat_le 1 (length bs) && nat_le (length bs) 10 then digits_from 0 bs else None

-- the place of the first such byte
abbrev pub first_place : ℕ → List ℕ → Option ℕ
first_place byte [] = None
first_place byte (b ∷ bs) = if b == byte then Some 0 else option_map suc (first_place byte bs)

abbrev pub both : Option ℕ → Option ℕ → Option (ℕ × ℕ)
both None n = None
both (Some m) None = None
both (Some m) (Some n) = Some (m, n)

-- two whole numbers around the place of a colon
abbrev pub around : List ℕ → Option ℕ → Option (ℕ × ℕ)
around bs None = None
around bs (Some k) = both (whole (take k bs)) (whole (drop (k + 1) bs))

abbrev pub colon : ℕ
colon = 58

-- two whole numbers joined by a colon
unfoldable pub pair : List ℕ → Option (ℕ × ℕ)
pair bs = around bs (first_place colon bs)

-- the greatest common divisor by Euclid's steps, of which so many are made at most
abbrev pub euclid : ℕ → ℕ → ℕ → ℕ
euclid zero a b = a
euclid (suc steps) a b = if b == 0 then a else euclid steps b (a % b)

-- a fraction in lowest terms
unfoldable pub lowest : ℕ → ℕ → Fraction
lowest num den = let common = euclid (den + 1) num den in record { num = num / common; den = den / common }

-- the time base num / den, of two positive numbers and in lowest terms below 2^31
unfoldable pub base_of : ℕ → ℕ → Option Fraction
base_of num den =
    if num == 0 || den == 0 then None
    else if nat_lt (lowest num den).num (2 ^ 31) && nat_lt (lowest num den).den (2 ^ 31) then Some (lowest num den)
    else None

-- the base of two numbers is their fraction in the lowest terms of ff_time, exactly where that is a time base
abbrev pub IsBaseOf : ℕ → ℕ → Fraction → Type 0
IsBaseOf num den f = (base_of num den ≡ Some f) ↔ (IsLowestOf (pos num) (pos den) f × IsBase f)
