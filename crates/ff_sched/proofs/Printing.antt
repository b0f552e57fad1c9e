-- Lines of a history, one after another.
use Rattle.std.proofs.Common.{◌≡◌, ℕ, ◌+◌, ◌<◌, List, [], ◌∷◌, ◌++◌, length, take, get_or, sym, refl, ap, ◌∙◌, append_assoc, append-nil}
use Rattle.std.proofs.lemmas.List.{take_more}
use Rattle.ff_frame.specs.declared.event.Event.{Event}
use Rattle.ff_sched.specs.Printing.{event_line, printed}

printed-append : (xs ys : List Event) → printed (xs ++ ys) ≡ printed xs ++ printed ys
printed-append [] ys = refl
printed-append (x ∷ xs) ys = ap (λ l. event_line x ++ l) (printed-append xs ys) ∙ sym (append_assoc (event_line x) (printed xs) (printed ys))

pub printed_more : (log' log : List Event) (i : ℕ) (d : Event) (text : List ℕ) → log' ≡ log → i < length log → text ≡ printed (take i log) → text ++ event_line (get_or log' i d) ≡ printed (take (i + 1) log)
printed_more log' log i d text same lt is = (λ k. is k ++ event_line (get_or (same k) i d)) ∙ sym (ap printed (take_more log i d lt) ∙ printed-append (take i log) (get_or log i d ∷ []) ∙ ap (λ l. printed (take i log) ++ l) (append-nil (event_line (get_or log i d))))
