-- What is known of two channels, their middle and their difference before all are planned.
use Rattle.std.specs.Prelude.{◌≡◌, ℕ, ℤ, ◌+◌, ◌^◌, ◌<◌, ◌≤◌, List, IfSome, IsSome}
use Rattle.ff_flac_subframe.specs.laws.Plan.{spelling_of, size, PlanFits}
use Rattle.ff_flac_subframe.specs.laws.Outlook.{IsOutlook}
use Rattle.ff_flac_subframe.specs.declared.subframe.Plan.{Plan}
use Rattle.ff_flac_enc.specs.Channels.{best}
use Rattle.ff_flac_enc.specs.laws.Signal.{CanWrite}
use Rattle.ff_flac_enc.specs.laws.Shape.{Chooses, first_depth, first_samples, second_depth, second_samples}
use Rattle.ff_flac_enc.specs.declared.pair.Outlooks.{Outlooks}
use Rattle.ff_flac_enc.specs.declared.shape.Choice.{Choice}
use Rattle.ff_flac_enc.specs.declared.shape.Four.{Four}
use Rattle.ff_flac_enc.specs.declared.shape.Known.{Known}
use Rattle.ff_flac_enc.specs.declared.shape.Shape.{Shape}
use Rattle.ff_flac_enc.specs.declared.shape.Shape.TheVariants.{Independent, LeftSide, SideRight, MidSide}

-- the fewest bits of a signal
abbrev pub fewest : ℕ → List ℤ → ℕ
fewest depth xs = size depth xs (best depth xs)

-- the plan stands for the least spelling
pub record IsBest (depth : ℕ) (xs : List ℤ) (plan : Plan) : Type 0 where
  pub is : spelling_of xs plan ≡ best depth xs
  pub fits : PlanFits xs plan

pub record IsKnown (depth : ℕ) (xs : List ℤ) (known : Known) : Type 0 where
  pub bound : known.bound ≤ fewest depth xs
  pub small : known.bound < 2 ^ 20
  pub plan : IfSome known.plan (λ p. (known.bound ≡ fewest depth xs) × IsBest depth xs p)

-- ---- of left, right, mid and side

pub record CanWriteFour (bits : ℕ) (l r m s : List ℤ) : Type 0 where
  pub left : CanWrite bits l
  pub right : CanWrite bits r
  pub mid : CanWrite bits m
  pub side : CanWrite (bits + 1) s

pub record AreOutlooks (bits : ℕ) (l r m s : List ℤ) (outlooks : Outlooks) : Type 0 where
  pub left : IsOutlook bits l outlooks.left
  pub right : IsOutlook bits r outlooks.right
  pub mid : IsOutlook bits m outlooks.mid
  pub side : IsOutlook (bits + 1) s outlooks.side

pub record AreKnown (bits : ℕ) (l r m s : List ℤ) (known : Four) : Type 0 where
  pub left : IsKnown bits l known.left
  pub right : IsKnown bits r known.right
  pub mid : IsKnown bits m known.mid
  pub side : IsKnown (bits + 1) s known.side

abbrev pub ArePlanned : Four → Type 0
ArePlanned known = IsSome known.left.plan × IsSome known.right.plan × IsSome known.mid.plan × IsSome known.side.plan

abbrev pub IsLowest : Four → Shape → Type 0
IsLowest known shape = Chooses known.left.bound known.right.bound known.mid.bound known.side.bound shape

-- what is known of a form's two signals
abbrev pub first_known : Four → Shape → Known
first_known known Independent = known.left
first_known known LeftSide = known.left
first_known known SideRight = known.side
first_known known MidSide = known.mid

abbrev pub second_known : Four → Shape → Known
second_known known Independent = known.right
second_known known LeftSide = known.side
second_known known SideRight = known.right
second_known known MidSide = known.side

-- the form has the fewest bits, and these are the plans of its two signals
pub record IsChoice (bits : ℕ) (l r m s : List ℤ) (choice : Choice) : Type 0 where
  pub shape : Chooses (fewest bits l) (fewest bits r) (fewest bits m) (fewest (bits + 1) s) choice.shape
  pub first : IsBest (first_depth bits choice.shape) (first_samples l m s choice.shape) choice.first
  pub second : IsBest (second_depth bits choice.shape) (second_samples r s choice.shape) choice.second
