-- Positive fractions, and the lowest terms of one.
use Rattle.std.specs.Prelude.{◌≡◌, ℕ, ℤ, ◌*◌, ◌^◌, ◌<◌, ◌≤◌, ◌⊎◌, pos, ◌<ℤ◌}
use Rattle.std.specs.Int.{IsGcd, ◌∣◌}
use Rattle.std.proofs.Common.{lit<}
use Rattle.std.proofs.Math.Nat.{eq-one_of_dvd-one}

-- a fraction of two whole numbers
pub record Fraction : Type 0 where
  pub num : ℕ
  pub den : ℕ

-- no number but 1 divides both
abbrev pub IsLowest : Fraction → Type 0
IsLowest f = (k : ℕ) → k ∣ f.num → k ∣ f.den → k ≡ 1

-- what a time base is: positive, in lowest terms, each number at most 2^31 - 1
pub record IsBase (f : Fraction) : Type 0 where
  pub num_positive : 0 < f.num
  pub num_small : f.num < 2 ^ 31
  pub den_positive : 0 < f.den
  pub den_small : f.den < 2 ^ 31
  pub lowest : IsLowest f

-- one over a number is in lowest terms
pub IsBase-unit : (d : ℕ) → 0 < d → d < 2 ^ 31 → IsBase (record { num = 1; den = d })
IsBase-unit d some small = record { num_positive = lit< tt; num_small = lit< tt; den_positive = some; den_small = small; lowest = λ k p q. eq-one_of_dvd-one p }

-- f is n over d with both numbers divided by their greatest common divisor
pub record IsReduced (n d : ℕ) (f : Fraction) : Type 0 where
  pub common : ℕ
  pub greatest : IsGcd n d common
  pub num : n ≡ f.num * common
  pub den : d ≡ f.den * common

-- one of two whole numbers is below 1
abbrev pub IsBelowOne : ℤ → ℤ → Type 0
IsBelowOne num den = (num <ℤ pos 1) ⊎ (den <ℤ pos 1)

-- num and den are positive, and f is num over den in lowest terms
pub record IsLowestOf (num den : ℤ) (f : Fraction) : Type 0 where
  pub n : ℕ
  pub d : ℕ
  pub num_is : num ≡ pos n
  pub den_is : den ≡ pos d
  pub num_positive : 0 < n
  pub den_positive : 0 < d
  pub reduced : IsReduced n d f

-- a number of the fraction exceeds 2^31 - 1
abbrev pub IsTooBig : Fraction → Type 0
IsTooBig f = (2 ^ 31 ≤ f.num) ⊎ (2 ^ 31 ≤ f.den)
