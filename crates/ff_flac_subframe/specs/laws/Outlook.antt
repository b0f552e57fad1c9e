-- What is known of samples before an order is searched.
use Rattle.std.specs.Prelude.{◌≡◌, ◌<◌, ◌≤◌, ◌^◌, ℕ, ℤ, List, length, min, slice_index_or}
use Rattle.std.specs.List.{AllByRecursion}
use Rattle.ff_flac_subframe.specs.Subframe.{candidates}
use Rattle.ff_flac_subframe.specs.laws.Plan.{size}
use Rattle.ff_flac_subframe.specs.laws.Leads.{IsFloor}
use Rattle.ff_flac_subframe.specs.declared.subframe.Outlook.{Outlook}

-- no spelling of an order has fewer bits than its floor, and no candidate fewer than the bound
pub record IsOutlook (depth : ℕ) (xs : List ℤ) (outlook : Outlook) : Type 0 where
  pub len : length outlook.floors.items ≡ min (length xs) 5
  pub floors : (o : ℕ) → o < min (length xs) 5 → IsFloor depth xs o (slice_index_or outlook.floors.items o 0)
  pub first : outlook.first < min (length xs) 5
  pub bound : AllByRecursion (λ s. outlook.bound ≤ size depth xs s) (candidates xs)
  pub small : outlook.bound < 2 ^ 20
