-- What the plan takes from the crates below it, and words on results.
use Rattle.std.specs.Prelude.{ℕ, Bool, true, false, List, Option, Some, None, Result, Ok, Err}
use Rattle.ff_frame.specs.declared.head.StreamHead.{StreamHead}
use Rattle.ff_lang.specs.declared.graph.Graph.{Graph}
use Rattle.ff_words.specs.declared.maps.map.MapSpec.{MapSpec}
pub use Rattle.ff_plan_layout.specs.declared.open_pads.OpenIn.{OpenIn}
pub use Rattle.ff_plan_layout.specs.declared.open_pads.OpenOut.{OpenOut}
pub use Rattle.ff_plan_layout.specs.declared.open_pads.Refused.{Refused}
use Rattle.ff_plan_layout.specs.declared.error.PlanError.{PlanError}

-- Of ff_words the map that a text is, of ff_graph the rest: whether a filter's name is known, whether the filters of a graph
-- feed each other in a loop, its open input pads in the order of writing, the refusal of its first source filter whose
-- arguments are refused, and its open output pads with their heads where the open input pads have these heads (None where a pad
-- found no stream), or the refusal that comes first.
pub record Rules : Type 0 where
  pub map_of : List ℕ → Option MapSpec
  pub known : List ℕ → Bool
  pub loops : Graph → Bool
  pub open_ins : Graph → List OpenIn
  pub source_fault : Graph → Option Refused
  pub configured : Graph → List (Option StreamHead) → Result (List OpenOut) Refused

abbrev pub Planned : Type 0 → Type 0
Planned X = Result X PlanError

-- the rest, where there is no refusal before
abbrev pub behind : {X Y : Type 0} → Planned X → (X → Planned Y) → Planned Y
behind (Ok x) rest = rest x
behind (Err e) rest = Err e

-- the rest, unless there is this refusal
abbrev pub unless : {Y : Type 0} → Option PlanError → Planned Y → Planned Y
unless None rest = rest
unless (Some e) rest = Err e

-- the first of two refusals
abbrev pub or_else : Option PlanError → Option PlanError → Option PlanError
or_else None second = second
or_else (Some e) second = Some e

-- the refusal, if so
abbrev pub where_so : Bool → PlanError → Option PlanError
where_so true e = Some e
where_so false e = None
