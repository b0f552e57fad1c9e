-- The chain of some streams, among that of all.
use Rattle.std.specs.Prelude.{◌≡◌, ℕ, ◌==◌, Bool, if◌then◌else◌, List, [], ◌∷◌}
use Rattle.std.specs.List.{list_any}
use Rattle.ff_avi.specs.declared.head.AviHead.{AviHead}
use Rattle.ff_avi.specs.Chains.{Chain, units}
use Rattle.ff_avi.specs.Chains.Chain.{whole, broken, gives}

-- a stream is among those used
abbrev pub is_in : List ℕ → ℕ → Bool
is_in used stream = list_any (λ k. k == stream) used

-- the packets of these streams alone, and the end of all
abbrev pub chosen : List ℕ → Chain → Chain
chosen used whole = whole
chosen used (broken place) = broken place
chosen used (gives stream packet rest) = if is_in used stream then gives stream packet (chosen used rest) else chosen used rest

-- What is given of some streams are their packets among those of all. Damage stands where it does if all are used.
abbrev pub UsedAreChosen : Type 0
UsedAreChosen = (head : AviHead) (used rest : List ℕ) → units head used rest ≡ chosen used (units head (0 ∷ 1 ∷ []) rest)
