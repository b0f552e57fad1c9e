-- What takes the place of bytes that were written.
use Rattle.std.specs.Prelude.{ℕ, ◌+◌, ◌≤◌, List, length, Option, Some, None}
use Rattle.ff_frame.specs.declared.totals.Totals.{Totals}
use Rattle.ff_format.specs.declared.writer.Patch.{Patch}
use Rattle.ff_format.specs.Layouts.{Layout}

-- from which place on, and which bytes
abbrev pub replacing : Option Patch → Option (ℕ × List ℕ)
replacing None = None
replacing (Some p) = Some (p.at, p.bytes.items)

abbrev pub StandsIn : Option (ℕ × List ℕ) → ℕ → Type 0
StandsIn None size = Unit {0}
StandsIn (Some p) size = p.0 + length p.1 ≤ size

-- they stand in the header
abbrev pub IsInside : Layout → ℕ → Option Totals → Type 0
IsInside layout n totals = StandsIn (layout.last n totals) (length layout.header)
