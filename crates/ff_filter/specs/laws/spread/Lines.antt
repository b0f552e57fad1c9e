-- What waits on the outputs of a filter, by number.
use Rattle.std.specs.Prelude.{◌≡◌, ℕ, zero, suc, ◌<◌, Bool, true, false, ◌||◌, ◌&&◌, List, [], ◌∷◌, ◌++◌, slice_index_or}
use Rattle.ff_stream.specs.declared.item.Item.{Item}
use Rattle.ff_stream.specs.Ports.{nothing}
use Rattle.ff_filter.specs.declared.after.After.{After}
use Rattle.ff_filter.specs.declared.outlet.Outlet.{Outlet}
use Rattle.ff_filter.specs.Joins.{Flow, before}
use Rattle.ff_filter.specs.Views.{closes}
use Rattle.ff_filter.specs.Made.{left}

-- the items that wait on an output, whether its closing item was given, and whether it isn't wanted any more
pub record Line : Type 0 where
  pub queue : List Item
  pub ended : Bool
  pub stopped : Bool

abbrev pub fresh : Line
fresh = record { queue = []; ended = false; stopped = false }

abbrev pub line_of : Outlet → Line
line_of o = record { queue = o.queue.items; ended = o.ended; stopped = o.stopped }

-- the output of this number; where there is none, nothing waits
abbrev pub lines : List Outlet → ℕ → Line
lines [] q = fresh
lines (o ∷ os) zero = line_of o
lines (o ∷ os) (suc q) = lines os q

-- nothing more is to be put there
abbrev pub is_done : Line → Bool
is_done l = l.stopped || l.ended

abbrev pub all_done : List Outlet → Bool
all_done [] = true
all_done (o ∷ os) = is_done (line_of o) && all_done os

-- the outputs before this one are what they were
abbrev pub IsFront : ℕ → List Outlet → List Outlet → Type 0
IsFront port old new = (q : ℕ) (d : Outlet) → q < port → slice_index_or new q d ≡ slice_index_or old q d

-- an item was put behind the others, where the output is wanted
pub record IsPut (old new : Line) (x : Item) : Type 0 where
  pub ended : new.ended ≡ old.ended
  pub stopped : new.stopped ≡ old.stopped
  pub queue : old.stopped ≡ false → new.queue ≡ old.queue ++ x ∷ []

-- an item was given, behind which the output stands so
pub record Took (old new : Line) (after : After) (x : Item) : Type 0 where
  pub open_before : old.ended ≡ false
  pub rest : (t : Flow) → left old.queue old.ended after t ≡ before x (left new.queue new.ended after t)
  pub ended : new.ended ≡ closes x

-- all that is due was given
pub record HasAll (old new : Line) (after : After) : Type 0 where
  pub rest : (t : Flow) → left new.queue new.ended after t ≡ left old.queue old.ended after t
  pub nothing_left : left old.queue old.ended after nothing ≡ nothing
  pub ended : new.ended ≡ old.ended
