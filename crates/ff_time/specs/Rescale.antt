-- A count of one unit told in another, and the order of counts of units.
use Rattle.std.specs.Prelude.{◌≡◌, ℕ, ℤ, ◌+◌, ◌*◌, ◌<◌, ◌≤◌, pos, ◌-ℤ◌, ◌*ℤ◌, ◌≤ℤ◌}
use Rattle.std.specs.Int.RustNames.{unsigned_abs}
use Rattle.std.specs.declared.cmp.Ordering.{Ordering}
use Rattle.std.specs.Ordering.{int_cmp}
use Rattle.ff_time.specs.Fraction.{Fraction}

-- how far the whole number r is from p / q, in parts of 1 / q
abbrev pub distance : ℤ → ℕ → ℤ → ℕ
distance p q r = unsigned_abs (r *ℤ pos q -ℤ p)

-- r is the whole number nearest to p / q, and of two that are as near the one farther from zero
pub record IsNearest (p : ℤ) (q : ℕ) (r : ℤ) : Type 0 where
  pub nearest : (s : ℤ) → distance p q r ≤ distance p q s
  pub away : (s : ℤ) → distance p q s ≡ distance p q r → unsigned_abs s ≤ unsigned_abs r

-- r is p / q with halves upwards, among the natural numbers
pub record IsRounded (p q r : ℕ) : Type 0 where
  pub some : 0 < q
  pub low : 2 * (r * q) ≤ 2 * p + q
  pub high : 2 * p + q < 2 * (r * q) + 2 * q

-- a units of one base, told in units of another: a * from / to, rounded
abbrev pub IsRescaled : ℤ → Fraction → Fraction → ℤ → Type 0
IsRescaled a from to r = IsNearest (a *ℤ pos (from.num * to.den)) (from.den * to.num) r

-- the order of the fractions a * ta and b * tb, both over the product of the two denominators
abbrev pub order_of : ℤ → Fraction → ℤ → Fraction → Ordering
order_of a ta b tb = int_cmp (a *ℤ pos (ta.num * tb.den)) (b *ℤ pos (tb.num * ta.den))

-- n units are at least that many microseconds: n * num / den is at least us / 1000000
abbrev pub Reaches : ℕ → Fraction → ℤ → Type 0
Reaches us tb n = pos (us * tb.den) ≤ℤ (n *ℤ pos (tb.num * 1000000))
