-- A range of times in ticks, as a function.
use Rattle.std.specs.Prelude.{ℕ, zero, suc, ◌*◌, ◌^◌, ◌-◌, ◌<◌, min, Option, Some, option_map, List}
use Rattle.std.specs.Int.{div_ceil}
use Rattle.std.proofs.Common.{arith}
use Rattle.ff_time.specs.Fraction.{Fraction}
use Rattle.ff_filter.specs.declared.range.Range.{Range}
use Rattle.ff_filters.specs.Texts.{time_of}

-- a range of times in microseconds
pub record Times : Type 0 where
  pub start : ℕ
  pub stop : Option ℕ

-- start or stop in microseconds
abbrev pub set_times : Times → ℕ → List ℕ → Option Times
set_times s zero value = option_map (λ us. record { start = us; stop = s.stop }) (time_of value)
set_times s (suc option) value = option_map (λ us. record { start = s.start; stop = Some us }) (time_of value)

-- a range of times and a duration in microseconds
pub record TrimTimes : Type 0 where
  pub range : Times
  pub lasting : ℕ

-- start, stop or duration in microseconds
abbrev pub set_trim : TrimTimes → ℕ → List ℕ → Option TrimTimes
set_trim s zero value = option_map (λ t. record { range = t; lasting = s.lasting }) (set_times s.range 0 value)
set_trim s (suc zero) value = option_map (λ t. record { range = t; lasting = s.lasting }) (set_times s.range 1 value)
set_trim s (suc (suc option)) value = option_map (λ us. record { range = s.range; lasting = us }) (time_of value)

-- the least number of ticks that is at least so many microseconds
abbrev pub ticks_at : Fraction → ℕ → ℕ
ticks_at tb us = div_ceil (us * tb.den) (tb.num * 1000000)

-- Ticks of 63 bits, which all times of at most 10^15 microseconds are in a time base.
abbrev pub in_bits : ℕ → ℕ
in_bits n = min n (2 ^ 63 - 1)

pub in_bits-near : (n : ℕ) → in_bits n < 2 ^ 63
in_bits-near n = omega arith

-- the range in ticks of a time base
abbrev pub range_in : Fraction → Times → Range
range_in tb s = record { start = in_bits (ticks_at tb s.start); stop = option_map (ticks_at tb) s.stop; near = in_bits-near (ticks_at tb s.start) }
