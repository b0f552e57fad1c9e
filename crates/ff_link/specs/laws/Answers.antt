-- What the calls of a link answer, and what they leave. A look at a queue leaves nothing in what its end knows, so each
-- word that tells of one rests on a fact that only the look shows.
use Rattle.std.specs.Prelude.{◌≡◌, ℕ, Option, Some, None, Result, Ok, Err, [], ◌∷◌, ◌++◌}
use Rattle.crossbeam_queue.specs.Fifo.{Held}
use Rattle.ff_stream.specs.declared.item.Item.{Item}
use Rattle.ff_link.specs.declared.answers.Put.{Put}
use Rattle.ff_link.specs.declared.answers.Put.TheVariants.{Done, Full, Finished}
use Rattle.ff_link.specs.declared.answers.Take.{Take}
use Rattle.ff_link.specs.declared.answers.Take.TheVariants.{Item as Taken, Empty}
use Rattle.ff_link.specs.laws.Flow.{Carries, IsRest, IsNext}
use Rattle.ff_link.specs.laws.Views.{Sending, Receiving, after_look}

-- what a put leaves of the sender
abbrev pub after_put : Sending → Item → Put → Sending
after_put s x Done = record s { sent = s.sent ++ x ∷ []; up_looks = after_look s.up_looks }
after_put s x (Full y) = record s { full_looks = after_look s.full_looks; up_looks = after_look s.up_looks }
after_put s x (Finished y n) = record s { told = Some n }

-- an item that isn't put comes back
abbrev pub HandsBack : Item → Put → Type 0
HandsBack x Done = Unit {0}
HandsBack x (Full y) = y ≡ x
HandsBack x (Finished y n) = y ≡ x

-- at one moment of the call no count had come up
abbrev pub SawNoCount : Type 0
SawNoCount = Held {T = ℕ} 0 (IsNext [])

-- at one moment of the call the queue held as many of the sent items as it has room for
abbrev pub SawFullAt : Sending → Type 0
SawFullAt s = Held s.room (IsRest s.sent)

-- what a look for the count leaves of the sender
abbrev pub after_look_up : Sending → Option ℕ → Sending
after_look_up s None = record s { up_looks = after_look s.up_looks }
after_look_up s (Some n) = record s { told = Some n }

-- what a push leaves of the sender
abbrev pub after_push : Sending → Item → Result (Unit {0}) Item → Sending
after_push s x (Ok u) = record s { sent = s.sent ++ x ∷ [] }
after_push s x (Err y) = record s { full_looks = after_look s.full_looks }

-- Done and Full, only where at one moment of the call the receiver hadn't finished
abbrev pub SawUnfinished : Put → Type 0
SawUnfinished Done = SawNoCount
SawUnfinished (Full y) = SawNoCount
SawUnfinished (Finished y n) = Unit {0}

-- Full, only where the queue was full
abbrev pub SawFull : Sending → Put → Type 0
SawFull s Done = Unit {0}
SawFull s (Full y) = SawFullAt s
SawFull s (Finished y n) = Unit {0}

-- what a take leaves of the receiver
abbrev pub after_take : Receiving → Take → Receiving
after_take r (Taken x) = record r { taken = r.taken ++ x ∷ [] }
after_take r Empty = record r { empty_looks = after_look r.empty_looks }

-- with the item, what was taken is valid for the lane where that is claimed
abbrev pub TakesValid : Receiving → Take → Type 0
TakesValid r (Taken x) = Carries r.link.claims r.lane (r.taken ++ x ∷ [])
TakesValid r Empty = Unit {0}

-- Empty, only where at one moment of the call the queue held nothing
abbrev pub SawEmpty : Receiving → Take → Type 0
SawEmpty r (Taken x) = Unit {0}
SawEmpty r Empty = Held 0 (IsNext r.taken)
