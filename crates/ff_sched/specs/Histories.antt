-- Histories: lists of events, and where the entries of a log stand in one.
use Rattle.std.specs.Prelude.{◌≡◌, ℕ, ◌+◌, ◌<◌, List, [], ◌∷◌, ◌++◌, take, slice_get, Some, All}
use Rattle.ff_frame.specs.declared.event.Event.{Event}
use Rattle.ff_frame.specs.declared.event.Event.TheVariants.{Grant, Sent, Finished, Best, Exited}
use Rattle.ff_sched.specs.declared.logged.Logged.{Logged}
use Rattle.ff_sched.specs.declared.routes.Routes.{Routes}
use Rattle.ff_sched.specs.State.{State}
use Rattle.ff_sched.specs.Events.{fold, IsInRange}
use Rattle.ff_sched.specs.Unchoked.{Unchokes}

-- Each event names a source, a stream, or a graph and one of its inputs, that the routes have. Each grant stands where the state that the
-- events before it leave unchokes its source.
pub record IsLegal (r : Routes) (opening : State) (events : List Event) : Type 0 where
  pub in_range : All (IsInRange r) events
  pub granted : (p k : ℕ) → slice_get events p ≡ Some (Grant k) → Unchokes r (fold opening (take p events)) k

-- where the event is a grant, the state unchokes its source
abbrev pub IsFree : Routes → State → Event → Type 0
IsFree r s (Grant k) = Unchokes r s k
IsFree r s (Sent j t) = Unit {0}
IsFree r s (Finished j) = Unit {0}
IsFree r s (Best g i) = Unit {0}
IsFree r s (Exited k) = Unit {0}

-- the event may come at this state
abbrev pub MayCome : Routes → State → Event → Type 0
MayCome r s e = IsInRange r e × IsFree r s e

abbrev pub logged : ℕ → Event → Logged
logged place event = record { place = place; event = event }

-- the entry is the event of the history at its place
abbrev pub StandsIn : List Event → Logged → Type 0
StandsIn events l = slice_get events l.place ≡ Some l.event

-- the weights of the entries, added up
abbrev pub weigh : (Logged → ℕ) → List Logged → ℕ
weigh h [] = 0
weigh h (x ∷ xs) = h x + weigh h xs

-- the events with their places
abbrev pub numbered : ℕ → List Event → List Logged
numbered n [] = []
numbered n (e ∷ es) = logged n e ∷ numbered (n + 1) es

-- the entries of several logs, one log after another
abbrev pub all_in : List (List Logged) → List Logged
all_in [] = []
all_in (l ∷ ls) = l ++ all_in ls

abbrev pub StartsWith : List Event → List Event → Type 0
StartsWith log seen = (rest : List Event) × (log ≡ seen ++ rest)

-- the places of a log rise, and none is at or above n
pub record Rises (n : ℕ) (log : List Logged) : Type 0 where
  pub below : All (λ l. l.place < n) log
  pub in_order : (i : ℕ) (x y : Logged) → slice_get log i ≡ Some x → slice_get log (i + 1) ≡ Some y
      → x.place < y.place
