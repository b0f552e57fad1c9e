-- The best plan of some orders, where one of another order is known.
use Rattle.std.specs.Prelude.{◌≡◌, ℕ, ◌≤◌, ℤ, List, ◌++◌, length, Option, Some, IfSome}
use Rattle.std.specs.Option.{option_map}
use Rattle.std.specs.List.{flat_map, range_with_len, AllByRecursion}
use Rattle.ff_flac_subframe.specs.rice.Least.{choose, least}
use Rattle.ff_flac_subframe.specs.Subframe.{Spelling, fixed_of}
use Rattle.ff_flac_subframe.specs.laws.Plan.{spelling_of, size, PlanFits, constants}
use Rattle.ff_flac_subframe.specs.declared.subframe.Planned.{Planned}

-- the spellings of the constant and of the orders below this one
abbrev pub so_far : List ℤ → ℕ → List Spelling
so_far xs order = constants xs ++ flat_map (fixed_of (length xs)) (range_with_len 0 order)

-- no spelling of an order has fewer bits
abbrev pub IsFloor : ℕ → List ℤ → ℕ → ℕ → Type 0
IsFloor depth xs order floor = AllByRecursion (λ s. floor ≤ size depth xs s) (fixed_of (length xs) order)

-- where some spelling behind these has no more bits than the limit, the best of all is the best of it and of the plan
pub record Leads (depth : ℕ) (xs : List ℤ) (limit : ℕ) (spellings : List Spelling) (best : Option Planned) : Type 0 where
  pub leads : (ds : List Spelling) (d : Spelling) → least (size depth xs) ds ≡ Some d → size depth xs d ≤ limit
      → least (size depth xs) (spellings ++ ds) ≡ choose (size depth xs) (option_map (λ p. spelling_of xs p.plan) best) (Some d)
  pub cost : IfSome best (λ p. p.cost ≡ size depth xs (spelling_of xs p.plan))
  pub fits : IfSome best (λ p. PlanFits xs p.plan)
