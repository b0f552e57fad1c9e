-- The common base of several time bases: the greatest in which the times of each are whole numbers.
use Rattle.std.specs.Prelude.{◌≡◌, ℕ, ◌*◌, ◌/◌, ◌<◌, List, map, Option, None, Some}
use Rattle.std.specs.Int.{◌∣◌}
use Rattle.std.specs.List.{All}
use Rattle.ff_time.specs.Fraction.{Fraction}

-- g divides each of these numbers, and each number that does divides g
pub record IsGcdOf (xs : List ℕ) (g : ℕ) : Type 0 where
  pub divides : All (λ x. g ∣ x) xs
  pub greatest : (d : ℕ) → All (λ x. d ∣ x) xs → d ∣ g

-- m is a multiple of each of these numbers, and each number that is one is a multiple of m
pub record IsLcmOf (xs : List ℕ) (m : ℕ) : Type 0 where
  pub multiple : All (λ x. x ∣ m) xs
  pub least : (d : ℕ) → All (λ x. x ∣ d) xs → m ∣ d

abbrev pub nums : List Fraction → List ℕ
nums bases = map (λ (b : Fraction). b.num) bases

abbrev pub dens : List Fraction → List ℕ
dens bases = map (λ (b : Fraction). b.den) bases

-- the greatest common divisor of the numerators over the least common multiple of the denominators
pub record IsCommonBase (bases : List Fraction) (f : Fraction) : Type 0 where
  pub num : IsGcdOf (nums bases) f.num
  pub den : IsLcmOf (dens bases) f.den

-- each common multiple of these numbers exceeds 1,000,000
abbrev pub MultiplesExceed : List ℕ → Type 0
MultiplesExceed xs = (m : ℕ) → 0 < m → All (λ x. x ∣ m) xs → 1000000 < m

-- the bases differ, and each common multiple of their denominators exceeds 1,000,000
pub record HaveNoCommonBase (bases : List Fraction) : Type 0 where
  pub differ : (one : Fraction) → ¬ All (λ b. b ≡ one) bases
  pub exceed : MultiplesExceed (dens bases)

-- what the common base is, and that there is none
abbrev pub IsCommonOf : List Fraction → Option Fraction → Type 0
IsCommonOf bases (Some f) = IsCommonBase bases f × ¬ HaveNoCommonBase bases
IsCommonOf bases None = HaveNoCommonBase bases

-- how many units of the other base are in one of the first
abbrev pub units_of : Fraction → Fraction → ℕ
units_of base other = base.num * other.den / (other.num * base.den)

-- n units of the other base are one of the first: their fractions are equal
abbrev pub IsUnits : ℕ → Fraction → Fraction → Type 0
IsUnits n base other = base.num * other.den ≡ n * (other.num * base.den)
