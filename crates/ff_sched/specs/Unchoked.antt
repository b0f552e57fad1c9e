-- Which sources may be read.
use Rattle.std.specs.Prelude.{◌≡◌, ℕ, zero, suc, ◌+◌, ◌<◌, ◌≤◌, ◌⊎◌, Bool, true, false, Option, Some, None}
use Rattle.std.specs.Prelude.{length, slice_get, nat_lt, if◌then◌else◌}
use Rattle.ff_sched.specs.declared.routes.Way.{Way}
use Rattle.ff_sched.specs.declared.routes.Way.TheVariants.{Source, Graph}
use Rattle.ff_sched.specs.declared.routes.Routes.{Routes}
use Rattle.ff_sched.specs.State.{State, last_at, finished_at, exited_at, best_at}
use Rattle.ff_sched.specs.Ways.{way_in}

-- an output stream that hasn't finished
abbrev pub GoesOn : Routes → State → ℕ → Type 0
GoesOn r s j = (j < length r.streams) × (finished_at s j ≡ false)

-- the trailing dts: each output stream that hasn't finished has a last dts, and this is the least of these
pub record IsTrailing (r : Routes) (s : State) (t : ℕ) : Type 0 where
  pub stream : ℕ
  pub goes_on : GoesOn r s stream
  pub last_is : last_at s stream ≡ Some t
  pub least : (j : ℕ) → GoesOn r s j → (u : ℕ) × (last_at s j ≡ Some u) × (t ≤ u)

-- an output stream asks for its source: it hasn't finished, and nothing of it was sent, or its last dts is less than 100,000
-- microseconds above the trailing dts
abbrev pub Asks : Routes → State → ℕ → Type 0
Asks r s j = GoesOn r s j × ((last_at s j ≡ None)
    ⊎ ((t : ℕ) × (u : ℕ) × IsTrailing r s t × (last_at s j ≡ Some u) × (u < t + 100000)))

-- the same as a test, with the trailing dts
abbrev pub is_behind : Option ℕ → ℕ → Bool
is_behind None u = false
is_behind (Some t) u = nat_lt u (t + 100000)

abbrev pub asks_with : Option ℕ → Option ℕ → Bool
asks_with trailing None = true
asks_with trailing (Some u) = is_behind trailing u

abbrev pub asks_by : State → Option ℕ → ℕ → Bool
asks_by s trailing j = if finished_at s j then false else asks_with trailing (last_at s j)

abbrev pub if_there : (Way → Option ℕ) → Option Way → Option ℕ
if_there f None = None
if_there f (Some way) = f way

-- the source to which a way leads through at most so many graphs, at each through its best input. A way that comes to another
-- graph, or to a source, graph or input that isn't in the routes, leads to none
abbrev pub source_within : Routes → State → ℕ → Way → Option ℕ
source_within r s n (Source k) = if nat_lt k r.sources then Some k else None
source_within r s zero (Graph g) = None
source_within r s (suc n) (Graph g) = if_there (source_within r s n) (way_in r.graphs g (best_at s g))

-- the source for which a stream asks, as a test finds it
abbrev pub asked_in : Routes → State → Option ℕ → ℕ → Option ℕ
asked_in r s trailing j = if asks_by s trailing j then if_there (source_within r s 16) (slice_get r.streams j) else None

-- this stream asks, and its way leads to this source
abbrev pub AsksFor : Routes → State → ℕ → ℕ → Type 0
AsksFor r s j k = Asks r s j × (if_there (source_within r s 16) (slice_get r.streams j) ≡ Some k)

-- some stream asks for this source
abbrev pub IsAskedFor : Routes → State → ℕ → Type 0
IsAskedFor r s k = (j : ℕ) × AsksFor r s j k

-- every source that is asked for has exited
abbrev pub NoneIsLeft : Routes → State → Type 0
NoneIsLeft r s = (k : ℕ) → IsAskedFor r s k → exited_at s k ≡ true

-- a source that hasn't exited and is asked for; where none is, the lowest that hasn't exited
pub record Unchokes (r : Routes) (s : State) (k : ℕ) : Type 0 where
  pub there : k < r.sources
  pub goes_on : exited_at s k ≡ false
  pub why : IsAskedFor r s k ⊎ (NoneIsLeft r s × ((i : ℕ) → i < k → exited_at s i ≡ true))
