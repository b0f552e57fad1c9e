-- A value that isn't taken.
use Rattle.std.proofs.Common.{ℕ, zero, suc, ◌<◌, ◌≤◌, List, arith}
use Rattle.ff_filter.specs.declared.range.RangeSettings.{RangeSettings}
use Rattle.ff_filter.specs.Options.{IsTime}
use Rattle.ff_filter.specs.Ranges.{SetsRange}
use Rattle.ff_filter.specs.declared.lasting.settings.TrimSettings.{TrimSettings}
use Rattle.ff_filter.specs.lasting.Lastings.{SetsTrim}

-- of the range
pub none_of_range : (s t : TrimSettings) (option : ℕ) (value : List ℕ) → option < 2 → ((r : RangeSettings) → SetsRange s.range option value r → ⊥) → SetsTrim s option value t → ⊥
none_of_range s t zero value lt n h = n t.range h.0
none_of_range s t (suc zero) value lt n h = n t.range h.0
none_of_range s t (suc (suc option)) value lt n h = absurd (omega (arith, lt))

-- of the duration
pub none_lasting : (s t : TrimSettings) (option : ℕ) (value : List ℕ) → 2 ≤ option → ((us : ℕ) → IsTime value us → ⊥) → SetsTrim s option value t → ⊥
none_lasting s t zero value le n h = absurd (omega (arith, le))
none_lasting s t (suc zero) value le n h = absurd (omega (arith, le))
none_lasting s t (suc (suc option)) value le n h = n t.lasting h.1
