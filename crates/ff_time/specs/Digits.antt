-- Whole numbers in decimal digits, two of them with a byte between, and rates.
use Rattle.std.specs.Prelude.{◌≡◌, ℕ, ◌+◌, ◌-◌, ◌*◌, nat_le, nat_lt, ◌&&◌, ◌==◌, Bool, if◌then◌else◌, pos, Option, Some, None, List, [], ◌∷◌, length}
use Rattle.std.specs.List.{position_or_len, before_first, after_first}
use Rattle.ff_time.specs.Fraction.{Fraction, IsBase, IsLowestOf}

abbrev pub is_digit : ℕ → Bool
is_digit b = nat_le 48 b && nat_le b 57

-- the number that digits write after those of n
abbrev pub digits_from : ℕ → List ℕ → Option ℕ
digits_from n [] = Some n
digits_from n (b ∷ bs) = if is_digit b then digits_from (10 * n + (b - 48)) bs else None

-- a whole number of 1 to so many digits
abbrev pub number_of : ℕ → List ℕ → Option ℕ
number_of most text = if nat_le 1 (length text) && nat_le (length text) most then digits_from 0 text else None

abbrev pub is_slash : ℕ → Bool
is_slash b = b == 47

abbrev pub over_one : Option ℕ → Option (ℕ × ℕ)
over_one None = None
over_one (Some n) = Some (n, 1)

abbrev pub both : Option ℕ → Option ℕ → Option (ℕ × ℕ)
both None d = None
both (Some n) None = None
both (Some n) (Some d) = Some (n, d)

-- N, or N/D: whole numbers of 1 to 10 digits
abbrev pub ratio_of : List ℕ → Option (ℕ × ℕ)
ratio_of text =
    if nat_lt (position_or_len is_slash text) (length text) then both (number_of 10 (before_first is_slash text)) (number_of 10 (after_first is_slash text))
    else over_one (number_of 10 text)

-- N or N/D a second have this time base: one over them in lowest terms, of two positive numbers of at most 2^31 - 1
pub record IsRate (text : List ℕ) (base : Fraction) : Type 0 where
  pub n : ℕ
  pub d : ℕ
  pub ratio : ratio_of text ≡ Some (n, d)
  pub lowest : IsLowestOf (pos d) (pos n) base
  pub small : IsBase base
