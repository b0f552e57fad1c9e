-- A range of times: from a start to below a stop.
use Rattle.std.specs.Prelude.{◌≡◌, ℕ, zero, suc, ℤ, ◌≤ℤ◌, Bool, false, nat_le, Option, Some, None, List, [], ◌∷◌, codes}
use Rattle.ff_time.specs.Fraction.{Fraction}
use Rattle.ff_time.specs.Rescale.{Reaches}
use Rattle.ff_stream.specs.Times.{ticks}
use Rattle.ff_filter.specs.declared.range.Range.{Range}
use Rattle.ff_filter.specs.declared.range.RangeSettings.{RangeSettings}
use Rattle.ff_filter.specs.Options.{Manual, IsTime}

-- start or stop in microseconds
abbrev pub SetsRange : RangeSettings → ℕ → List ℕ → RangeSettings → Type 0
SetsRange s zero value t = IsTime value t.start × (t.stop ≡ s.stop)
SetsRange s (suc option) value t = (t.start ≡ s.start) × ((us : ℕ) × IsTime value us × (t.stop ≡ Some us))

-- the options `start` and `end`, in this order of places
abbrev pub range_manual : Manual RangeSettings
range_manual = record {
  names = (codes "start", 0) ∷ (codes "end", 1) ∷ [];
  places = 2;
  Sets = SetsRange;
}

-- k is the least number of ticks that is at least so many microseconds
abbrev pub IsCeiling : ℕ → Fraction → ℕ → Type 0
IsCeiling us tb k = (n : ℤ) × Reaches us tb n × ((m : ℤ) → Reaches us tb m → n ≤ℤ m) × (k ≡ ticks n)

abbrev pub IsStop : Option ℕ → Fraction → Option ℕ → Type 0
IsStop None tb stop = stop ≡ None
IsStop (Some us) tb stop = (k : ℕ) × IsCeiling us tb k × (stop ≡ Some k)

-- the range in ticks of a time base
pub record IsRange (s : RangeSettings) (tb : Fraction) (range : Range) : Type 0 where
  pub start : IsCeiling s.start tb range.start
  pub stop : IsStop s.stop tb range.stop

-- whether a time is at or past the stop
abbrev pub is_past : Option ℕ → ℕ → Bool
is_past None t = false
is_past (Some stop) t = nat_le stop t
