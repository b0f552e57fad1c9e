-- Which events there are.
use Rattle.std.proofs.Common.{◌≡◌, ◌≢◌, ℕ, zero, suc, ◌<◌, ◌≤◌, ◌==◌, ◌⊎◌, inl, inr, ℤ, Bool, true, false, cond, Option, None, Some, List, [], ◌∷◌, ◌++◌, length, refl, ap, sym, ◌∙◌, subst, arith}
use Rattle.std.specs.Prelude.{All, IfSome, unwrap_or}
use Rattle.std.proofs.lemmas.Bool.Decides.{nat_tests}
use Rattle.std.proofs.lemmas.List.Elements.{All-append, All-cons}
use mathlib.Core.List.{IsPrefix}
use Rattle.ff_time.specs.Fraction.{Fraction}
use Rattle.ff_frame.specs.declared.event.Event.{Event}
use Rattle.ff_frame.specs.declared.event.Event.TheVariants.{Best}
use Rattle.ff_net.specs.Ways.{Flow, with_item_at}
use Rattle.ff_net.specs.Pasts.{Feed}
use Rattle.ff_node_filter.specs.best.Bests.{base_at, end_in, closed_in, earlier_of, earliest_to, best_of, best_on, streams_on, turned, events_on, best_after, best_events}
use Rattle.ff_node_filter.specs.laws.best.Laws.{IsBestOf, AreTurns, last_named}
use Rattle.ff_node_filter.proofs.BestLemmas.Noting.{events_on-append}

all_none : (P : Event → Type 0) → All P []
all_none P k d lt = absurd (omega (arith, lt))

-- among n inputs the best one is one of them
module _ (base : ℕ → Fraction) (ends : ℕ → Option ℤ) (closed : ℕ → Bool) where
  picked : (n i : ℕ) (b : Bool) → i < n → cond b n i < suc n
  picked n i true lt = omega arith
  picked n i false lt = omega (arith, lt)

  taken : (n : ℕ) (o : Option ℕ) (b : Bool) → IfSome o (λ i. i < n) → IfSome (cond b o (Some (earlier_of base ends closed o n))) (λ i. i < suc n)
  taken n None true h = tt
  taken n (Some i) true h = omega (arith, h)
  taken n None false h = omega arith
  taken n (Some i) false h = picked n i _ h

  small : (n : ℕ) → IfSome (earliest_to base ends closed n) (λ i. i < n)
  small zero = tt
  small (suc n) = taken n (earliest_to base ends closed n) (closed n) (small n)

it_or_was : (o : Option ℕ) (n was : ℕ) → IfSome o (λ i. i < n) → (unwrap_or o was ≡ was) ⊎ (unwrap_or o was < n)
it_or_was None n was h = inl refl
it_or_was (Some i) n was h = inr h

best_there : (bases : List Fraction) (ss : List Flow) (was : ℕ) → (best_of bases ss was ≡ was) ⊎ (best_of bases ss was < length bases)
best_there bases ss was = it_or_was (earliest_to (base_at bases) (end_in ss) (closed_in ss) (length bases)) (length bases) was (small (base_at bases) (end_in ss) (closed_in ss) (length bases))

not_same : (is was : ℕ) → (is == was) ≡ false → is ≢ was
not_same is was e = grind (arith, nat_tests)

is_same : (is was : ℕ) → (is == was) ≡ true → is ≡ was
is_same is was e = grind (arith, nat_tests)

turn_named : (graph was is n : ℕ) (b : Bool) → (is == was) ≡ b → (is ≡ was) ⊎ (is < n) → All (IsBestOf graph n) (cond b [] (Best graph is ∷ []))
turn_named graph was is n true e h = all_none (IsBestOf graph n)
turn_named graph was is n false e (inl same) = absurd (not_same is was e same)
turn_named graph was is n false e (inr lt) = All-cons (IsBestOf graph n) (Best graph is) [] (refl, lt) (all_none (IsBestOf graph n))

pub events_named : (graph : ℕ) (bases : List Fraction) (ss : List Flow) (was : ℕ) (fs : List Feed) → All (IsBestOf graph (length bases)) (events_on graph bases ss was fs)
events_named graph bases ss was [] = all_none (IsBestOf graph (length bases))
events_named graph bases ss was (f ∷ fs) =
    let now = with_item_at ss f.port f.item in
    let is = best_of bases now was in
    All-append (IsBestOf graph (length bases)) (turned graph was is) (events_on graph bases now is fs)
    (turn_named graph was is (length bases) (is == was) refl (best_there bases now was)) (events_named graph bases now is fs)

turn_turns : (graph was is : ℕ) (b : Bool) (es : List Event) → (is == was) ≡ b → AreTurns is es → AreTurns was (cond b [] (Best graph is ∷ []) ++ es)
turn_turns graph was is true es e h = subst (λ (i : ℕ). AreTurns i es) (is_same is was e) h
turn_turns graph was is false es e h = (not_same is was e, h)

pub events_turn : (graph : ℕ) (bases : List Fraction) (ss : List Flow) (was : ℕ) (fs : List Feed) → AreTurns was (events_on graph bases ss was fs)
events_turn graph bases ss was [] = tt
events_turn graph bases ss was (f ∷ fs) =
    let now = with_item_at ss f.port f.item in
    let is = best_of bases now was in
    turn_turns graph was is (is == was) (events_on graph bases now is fs) refl (events_turn graph bases now is fs)

turn_names : (graph was is : ℕ) (b : Bool) (es : List Event) → (is == was) ≡ b → last_named was (cond b [] (Best graph is ∷ []) ++ es) ≡ last_named is es
turn_names graph was is true es e = ap (λ (i : ℕ). last_named i es) (sym (is_same is was e))
turn_names graph was is false es e = refl

pub events_name : (graph : ℕ) (bases : List Fraction) (ss : List Flow) (was : ℕ) (fs : List Feed) → last_named was (events_on graph bases ss was fs) ≡ best_on bases ss was fs
events_name graph bases ss was [] = refl
events_name graph bases ss was (f ∷ fs) =
    let now = with_item_at ss f.port f.item in
    let is = best_of bases now was in
    turn_names graph was is (is == was) (events_on graph bases now is fs) refl ∙ events_name graph bases now is fs

turn_long : (graph was is : ℕ) (b : Bool) (es : List Event) → length (cond b [] (Best graph is ∷ []) ++ es) ≤ suc (length es)
turn_long graph was is true es = omega arith
turn_long graph was is false es = omega arith

pub events_few : (graph : ℕ) (bases : List Fraction) (ss : List Flow) (was : ℕ) (fs : List Feed) → length (events_on graph bases ss was fs) ≤ length fs
events_few graph bases ss was [] = omega arith
events_few graph bases ss was (f ∷ fs) =
    let now = with_item_at ss f.port f.item in
    let is = best_of bases now was in
    omega (arith, turn_long graph was is (is == was) (events_on graph bases now is fs), events_few graph bases now is fs)

pub events_front : (graph : ℕ) (bases : List Fraction) (fs gs : List Feed) → IsPrefix fs gs → IsPrefix (best_events graph bases fs) (best_events graph bases gs)
events_front graph bases fs gs p = (
  events_on graph bases (streams_on [] fs) (best_after bases fs) p.0,
  sym (events_on-append graph bases [] 0 fs p.0) ∙ ap (λ (hs : List Feed). best_events graph bases hs) p.1,
)
