-- What an event does to the state.
use Rattle.std.specs.Prelude.{◌+◌, ◌<◌, ◌^◌, true, List, [], ◌∷◌, Some, slice_set, slice_index_or, length}
use Rattle.ff_frame.specs.declared.event.Event.{Event}
use Rattle.ff_frame.specs.declared.event.Event.TheVariants.{Grant, Sent, Finished, Best, Exited}
use Rattle.ff_sched.specs.declared.routes.Routes.{Routes}
use Rattle.ff_sched.specs.State.{State}

abbrev pub step_of : State → Event → State
step_of s (Grant k) = record s { count = s.count + 1 }
step_of s (Sent j t) = record s { last = slice_set s.last j (Some t); count = s.count + 1 }
step_of s (Finished j) = record s { finished = slice_set s.finished j true; count = s.count + 1 }
step_of s (Best g i) = record s { best = slice_set s.best g i; count = s.count + 1 }
step_of s (Exited k) = record s { exited = slice_set s.exited k true; count = s.count + 1 }

-- the state after these events
abbrev pub fold : State → List Event → State
fold s [] = s
fold s (e ∷ es) = fold (step_of s e) es

-- the numbers of an event are below 16, and its time below 2^63
abbrev pub IsSmall : Event → Type 0
IsSmall (Grant k) = k < 16
IsSmall (Sent j t) = (j < 16) × (t < 2 ^ 63)
IsSmall (Finished j) = j < 16
IsSmall (Best g i) = (g < 16) × (i < 16)
IsSmall (Exited k) = k < 16

-- the source, stream or graph is one of the routes, the input one of the graph's, and the time below 2^63
abbrev pub IsInRange : Routes → Event → Type 0
IsInRange r (Grant k) = k < r.sources
IsInRange r (Sent j t) = (j < length r.streams) × (t < 2 ^ 63)
IsInRange r (Finished j) = j < length r.streams
IsInRange r (Best g i) = (g < length r.graphs) × (i < length (slice_index_or r.graphs g []))
IsInRange r (Exited k) = k < r.sources

-- the event is no grant
abbrev pub IsTold : Event → Type 0
IsTold (Grant k) = ⊥
IsTold (Sent j t) = Unit {0}
IsTold (Finished j) = Unit {0}
IsTold (Best g i) = Unit {0}
IsTold (Exited k) = Unit {0}
