-- The text of a history: a line for each event.
use Rattle.std.specs.Prelude.{ℕ, List, [], ◌∷◌, ◌++◌, codes, decimal}
use Rattle.ff_frame.specs.declared.event.Event.{Event}
use Rattle.ff_frame.specs.declared.event.Event.TheVariants.{Grant, Sent, Finished, Best, Exited}

abbrev pub one_number : List ℕ → ℕ → List ℕ
one_number name n = name ++ codes " " ++ decimal n ++ codes "\n"

abbrev pub two_numbers : List ℕ → ℕ → ℕ → List ℕ
two_numbers name n m = name ++ codes " " ++ decimal n ++ codes " " ++ decimal m ++ codes "\n"

abbrev pub event_line : Event → List ℕ
event_line (Grant s) = one_number (codes "grant") s
event_line (Sent j t) = two_numbers (codes "sent") j t
event_line (Finished j) = one_number (codes "finished") j
event_line (Best g i) = two_numbers (codes "best") g i
event_line (Exited s) = one_number (codes "exited") s

abbrev pub printed : List Event → List ℕ
printed [] = []
printed (e ∷ es) = event_line e ++ printed es
