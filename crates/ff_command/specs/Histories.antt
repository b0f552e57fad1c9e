-- What a run has logged, where there is something: the events of its history, and the reads of its inputs.
use Rattle.std.specs.Prelude.{ℕ, List, [], Option, None, Some}
use Rattle.ff_frame.specs.declared.event.Event.{Event}
use Rattle.ff_run_plan.specs.declared.reads.RunLog.{RunLog}
use Rattle.ff_run_plan.specs.Reads.{places_in}

abbrev pub events_in : Option (List Event) → List Event
events_in None = []
events_in (Some events) = events

abbrev pub history_in : Option RunLog → List Event
history_in None = []
history_in (Some log) = log.history

abbrev pub reads_in : Option RunLog → List (List ℕ)
reads_in None = []
reads_in (Some log) = places_in log.reads.items

-- this is so of the history, and that of it and the reads
abbrev pub LogHas : (List Event → Type 0) → (List Event → List (List ℕ) → Type 0) → RunLog → Type 0
LogHas tells reads log = tells log.history × reads log.history (places_in log.reads.items)
