-- The parameters among which the best one of a partition is.
use Rattle.std.specs.Prelude.{ℕ, ◌+◌, ◌*◌, ◌^◌, ◌<◌, ◌≤◌, List, length}
use Rattle.ff_flac_subframe.specs.rice.Rice.{quotients}

-- a parameter below low costs so many values with this sum no less than the next one
abbrev pub IsLowEnd : ℕ → ℕ → ℕ → Type 0
IsLowEnd low len total = (k : ℕ) → k < low → 3 * (len * 2 ^ k) ≤ total

-- the last one below high and each above it cost them no more than the next
abbrev pub IsHighEnd : ℕ → ℕ → ℕ → Type 0
IsHighEnd high len total = (k : ℕ) → high ≤ k + 1 → k + 1 < 31 → total ≤ len * 2 ^ k

-- some best parameter of a partition is from low on and below high
pub record Spans (low high : ℕ) (part : List ℕ) : Type 0 where
  pub below : IsLowEnd low (length part) (quotients 0 part)
  pub above : IsHighEnd high (length part) (quotients 0 part)

-- parameters of both methods, of which at least one is the first method's
pub record IsSpan (low high : ℕ) : Type 0 where
  pub first : low ≤ 14
  pub some_parameter : low < high
  pub last : high ≤ 31
