-- What the law on histories speaks of.
use Rattle.std.specs.Prelude.{◌≡◌, ◌⊎◌, Bool, true, List, [], ◌∷◌, map}
use Rattle.ff_frame.specs.declared.event.Event.{Event}
use Rattle.ff_sched.specs.declared.logged.Logged.{Logged}
use Rattle.ff_sched.specs.Histories.{all_in}
use Rattle.ff_sched.specs.laws.Passing.{Passing, logs_of}

abbrev pub IsEntryOf : Logged → List Logged → Type 0
IsEntryOf x [] = ⊥
IsEntryOf x (l ∷ ls) = (l ≡ x) ⊎ IsEntryOf x ls

abbrev pub IsPassOf : Passing → List Passing → Type 0
IsPassOf p [] = ⊥
IsPassOf p (q ∷ qs) = (q ≡ p) ⊎ IsPassOf p qs

-- of all entries of these passes, those of a kind of event are in this log
abbrev pub HasAllOf : (Event → Bool) → List Passing → List Logged → Type 0
HasAllOf kind passes log = (x : Logged) → IsEntryOf x (all_in (logs_of passes)) → kind x.event ≡ true → IsEntryOf x log

abbrev pub events_in : List Logged → List Event
events_in log = map (λ l. l.event) log
