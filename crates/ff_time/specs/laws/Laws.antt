-- What the calls' definitions have in common: the laws that callers lean on.
use Rattle.std.specs.Prelude.{◌≡◌, ℕ, ℤ, ◌+◌, ◌*◌, ◌≤◌, List, length, pos, ◌-ℤ◌, ◌*ℤ◌}
use Rattle.std.specs.Int.RustNames.{unsigned_abs}
use Rattle.std.specs.declared.cmp.Ordering.{Ordering}
use Rattle.ff_time.specs.Fraction.{Fraction, IsBase}
use Rattle.ff_time.specs.Rescale.{order_of}
use Rattle.ff_time.specs.Duration.{IsDuration}

-- a number of units of a base
pub record Moment : Type 0 where
  pub count : ℤ
  pub base : Fraction
  pub positive : IsBase base

abbrev pub moment_cmp : Moment → Moment → Ordering
moment_cmp x y = order_of x.count x.base y.count y.base

-- the fractions count * num / den are equal
abbrev pub IsSameMoment : Moment → Moment → Type 0
IsSameMoment x y = (x.count *ℤ pos x.base.num) *ℤ pos y.base.den ≡ (y.count *ℤ pos y.base.num) *ℤ pos x.base.den

-- twice the way from a to b, in units of from, is at most one unit of each base
abbrev pub IsNearAgain : ℤ → Fraction → Fraction → ℤ → Type 0
IsNearAgain a from to b = 2 * unsigned_abs (b -ℤ a) * (from.num * to.den) ≤ from.num * to.den + to.num * from.den

-- a text of that value than which none is shorter
pub record IsShortest (text : List ℕ) (value : ℕ) : Type 0 where
  pub duration : IsDuration text value
  pub least : (other : List ℕ) → IsDuration other value → length text ≤ length other
