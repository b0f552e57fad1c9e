-- What the best input is among the others, and which events there are.
use Rattle.std.specs.Prelude.{◌≡◌, ◌≢◌, ℕ, ◌<◌, Bool, true, false, List, [], ◌∷◌, length}
use Rattle.ff_time.specs.Fraction.{Fraction}
use Rattle.ff_frame.specs.declared.event.Event.{Event}
use Rattle.ff_frame.specs.declared.event.Event.TheVariants.{Grant, Sent, Finished, Best, Exited}
use Rattle.ff_net.specs.Ways.{Flow}
use Rattle.ff_node_filter.specs.best.Bests.{base_at, end_in, closed_in, is_earlier}

-- the last item of input p ends before that of input q, as exact times, or q has one and p has none
abbrev pub ends_before : List Fraction → List Flow → ℕ → ℕ → Bool
ends_before bases ss p q = is_earlier (end_in ss p) (base_at bases p) (end_in ss q) (base_at bases q)

-- an input that hasn't closed
pub record IsOpen (bases : List Fraction) (ss : List Flow) (p : ℕ) : Type 0 where
  pub there : p < length bases
  pub open_still : closed_in ss p ≡ false

-- it hasn't closed; of the others that haven't, none ends before it, and each of a lower number ends after it
pub record IsFirst (bases : List Fraction) (ss : List Flow) (i : ℕ) : Type 0 where
  pub is_open : IsOpen bases ss i
  pub none_before : (q : ℕ) → IsOpen bases ss q → ends_before bases ss q i ≡ false
  pub before_lower : (q : ℕ) → q < i → IsOpen bases ss q → ends_before bases ss i q ≡ true

-- an event that names one of so many inputs of this graph as its best one
abbrev pub IsBestOf : ℕ → ℕ → Event → Type 0
IsBestOf graph inputs (Grant k) = ⊥
IsBestOf graph inputs (Sent j t) = ⊥
IsBestOf graph inputs (Finished j) = ⊥
IsBestOf graph inputs (Best g i) = (g ≡ graph) × (i < inputs)
IsBestOf graph inputs (Exited k) = ⊥

-- each event names another input than the one before it, and the first another than this one
abbrev pub AreTurns : ℕ → List Event → Type 0
AreTurns was [] = Unit {0}
AreTurns was (Grant k ∷ es) = ⊥
AreTurns was (Sent j t ∷ es) = ⊥
AreTurns was (Finished j ∷ es) = ⊥
AreTurns was (Best g i ∷ es) = (i ≢ was) × AreTurns i es
AreTurns was (Exited k ∷ es) = ⊥

-- the input that the last of these events names; this one where there is none
abbrev pub last_named : ℕ → List Event → ℕ
last_named was [] = was
last_named was (Grant k ∷ es) = last_named was es
last_named was (Sent j t ∷ es) = last_named was es
last_named was (Finished j ∷ es) = last_named was es
last_named was (Best g i ∷ es) = last_named i es
last_named was (Exited k ∷ es) = last_named was es
