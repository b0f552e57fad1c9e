use Rattle.std.specs.Prelude.{◌≡◌, ◌<◌, ◌≤◌, ⊤, true, ℕ, ℤ, List, [], ◌∷◌, length, map, Option, IfSome, if◌then◌else◌}
use Rattle.std.specs.Option.{option_map}
use Rattle.ff_flac_subframe.specs.rice.Least.{least}
use Rattle.ff_flac_subframe.specs.rice.Rice.{zigzagged, best_at, is_allowed}
use Rattle.ff_flac_subframe.specs.Subframe.{Spelling, rest_of, subframe_bits, all_are, first_or_zero}
use Rattle.ff_flac_subframe.specs.Subframe.Spelling.{constant, fixed, verbatim}
use Rattle.ff_flac_subframe.specs.declared.subframe.Plan.{Plan}
use Rattle.ff_flac_subframe.specs.declared.subframe.Plan.TheVariants.{Constant, Fixed, Verbatim}
use Rattle.ff_flac_subframe.specs.declared.subframe.Planned.{Planned}

-- the spelling that a plan stands for
abbrev pub spelling_of : List ℤ → Plan → Spelling
spelling_of xs Constant = constant
spelling_of xs (Fixed order method partition_order) = fixed order (best_at order method partition_order (map zigzagged (rest_of order xs)))
spelling_of xs Verbatim = verbatim

abbrev pub size : ℕ → List ℤ → Spelling → ℕ
size depth xs s = length (subframe_bits depth xs s)

-- a plan that can be written
abbrev pub PlanFits : List ℤ → Plan → Type 0
PlanFits xs Constant = ⊤
PlanFits xs (Fixed order method partition_order) =
    (order < length xs) × (order ≤ 4) × (method ≤ 1) × (partition_order ≤ 8) × (is_allowed (length xs) order partition_order ≡ true)
PlanFits xs Verbatim = ⊤

-- the plan stands for the first of the least of these spellings
pub record IsBestPlan (depth : ℕ) (xs : List ℤ) (spellings : List Spelling) (best : Option Planned) : Type 0 where
  pub chosen : least (size depth xs) spellings ≡ option_map (λ p. spelling_of xs p.plan) best
  pub cost : IfSome best (λ p. p.cost ≡ size depth xs (spelling_of xs p.plan))
  pub fits : IfSome best (λ p. PlanFits xs p.plan)

abbrev pub constants : List ℤ → List Spelling
constants xs = if all_are (first_or_zero xs) xs then constant ∷ [] else []
