-- The common base of time bases, as it is computed from their numerators and denominators.
use Rattle.std.specs.Prelude.{ℕ, zero, suc, ◌*◌, ◌/◌, ◌%◌, nat_eq, nat_le, Bool, true, false, ◌&&◌, cond, Option, None, Some, List, [], ◌∷◌}
use Rattle.ff_time.specs.Fraction.{Fraction}
use Rattle.ff_time.specs.Common.{nums, dens}

-- the greatest common divisor of two numbers, where so many of Euclid's steps are enough
abbrev pub euclid : ℕ → ℕ → ℕ → ℕ
euclid zero a b = a
euclid (suc n) a zero = a
euclid (suc n) a (suc b) = euclid n (suc b) (a % suc b)

-- each step leaves a smaller second number
abbrev pub gcd : ℕ → ℕ → ℕ
gcd a b = euclid b a b

abbrev pub lcm : ℕ → ℕ → ℕ
lcm zero b = 0
lcm (suc a) b = suc a / gcd (suc a) b * b

-- those of several numbers
abbrev pub gcd_all : List ℕ → ℕ
gcd_all [] = 0
gcd_all (x ∷ xs) = gcd x (gcd_all xs)

abbrev pub lcm_all : List ℕ → ℕ
lcm_all [] = 1
lcm_all (x ∷ xs) = lcm x (lcm_all xs)

abbrev pub fraction_of : ℕ → ℕ → Fraction
fraction_of n d = record { num = n; den = d }

-- each of these bases is this one
abbrev pub are_all : Fraction → List Fraction → Bool
are_all base [] = true
are_all base (b ∷ bs) = (nat_eq b.num base.num && nat_eq b.den base.den) && are_all base bs

-- the fraction, where its denominator is at most 1,000,000
abbrev pub where_small : ℕ → ℕ → Option Fraction
where_small n zero = None
where_small n (suc d) = cond (nat_le (suc d) 1000000) (Some (fraction_of n (suc d))) None

-- That of all where they are equal. Otherwise the greatest common divisor of the numerators over the least common multiple of the
-- denominators, where that is small enough.
unfoldable pub common_of : List Fraction → Option Fraction
common_of [] = Some (fraction_of 0 1)
common_of (base ∷ bases) =
    cond (are_all base (base ∷ bases)) (Some base) (where_small (gcd_all (nums (base ∷ bases))) (lcm_all (dens (base ∷ bases))))
