-- Time bases of so many ticks a second.
use Rattle.std.specs.Prelude.{ℕ}
use Rattle.ff_time.specs.Fraction.{Fraction}

abbrev pub one_over : ℕ → Fraction
one_over rate = record { num = 1; den = rate }
