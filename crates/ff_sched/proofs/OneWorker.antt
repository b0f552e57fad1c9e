-- In the history of passes that are together, the events of one kind that only one of them has stand in the order of its log.
use Rattle.std.proofs.Common.{◌≡◌, ℕ, suc, ◌+◌, ◌-◌, ◌<◌, ◌≤◌, inl, inr, ⊎_elim, Bool, true, false, List, [], ◌∷◌, filter, length, slice_get, Some, nat_eq, sym, refl, ap, ◌∙◌, subst, arith, All}
use borrow.Author.Tests.{eqb-true, eqb-false}
use Rattle.std.proofs.lemmas.List.Elements.{All-nil, All-head, All-tail, All-append}
use Rattle.ff_frame.specs.declared.event.Event.{Event}
use Rattle.ff_sched.specs.declared.logged.Logged.{Logged}
use Rattle.ff_sched.specs.Histories.{StandsIn, Rises, weigh, all_in}
use Rattle.ff_sched.specs.laws.Passing.{Scheduler, Passing, IsHistory, logs_of}
use Rattle.ff_sched.specs.laws.Laws.{IsEntryOf, IsPassOf, HasAllOf, events_in}
use Rattle.ff_sched.proofs.Unchoking.{some_is}
use Rattle.ff_sched.proofs.Closing.{times, times_other, hits, there}
use Rattle.ff_sched.proofs.OneLog.{RisesFrom, StandFrom, HasPlace, one_log}

found : (p : ℕ) (xs : List Logged) → 0 < weigh (times p) xs → (x : Logged) × IsEntryOf x xs × (x.place ≡ p)
found p [] lt = absurd (omega arith)
found p (x ∷ xs) lt = split (nat_eq x.place p) refl (λ more. found p xs more)
  where
    split : (b : Bool) → nat_eq x.place p ≡ b → (0 < weigh (times p) xs → (y : Logged) × IsEntryOf y xs × (y.place ≡ p)) → (y : Logged) × IsEntryOf y (x ∷ xs) × (y.place ≡ p)
    split true q on = (x, inl refl, eqb-true x.place p q)
    split false q on = let r = on (let z = times_other p x (eqb-false x.place p q) in omega arith) in (r.0, inr r.1, r.2)

among_stands : (events : List Event) (xs : List Logged) (x : Logged) → All (StandsIn events) xs → IsEntryOf x xs → StandsIn events x
among_stands events [] x a i = absurd i
among_stands events (l ∷ ls) x a i = ⊎_elim (λ e. subst (StandsIn events) e (All-head (StandsIn events) l ls a)) (λ more. among_stands events ls x (All-tail (StandsIn events) l ls a) more) i

all_stand : (events : List Event) (ps : List Passing) → All (λ p. All (StandsIn events) p.log) ps → All (StandsIn events) (all_in (logs_of ps))
all_stand events [] a = All-nil (StandsIn events)
all_stand events (p ∷ ps) a = All-append (StandsIn events) p.log (all_in (logs_of ps)) (All-head (λ (q : Passing). All (StandsIn events) q.log) p ps a) (all_stand events ps (All-tail (λ (q : Passing). All (StandsIn events) q.log) p ps a))

has_place : (x : Logged) (ls : List Logged) → IsEntryOf x ls → HasPlace x.place ls
has_place x [] i = i
has_place x (l ∷ ls) i = ⊎_elim (λ e. inl (ap (λ (y : Logged). y.place) e)) (λ more. inr (has_place x ls more)) i

rises_from : (low : ℕ) (log : List Logged) → ((i : ℕ) (x y : Logged) → slice_get log i ≡ Some x → slice_get log (i + 1) ≡ Some y → x.place < y.place) → ((x : Logged) → slice_get log 0 ≡ Some x → low ≤ x.place) → RisesFrom low log
rises_from low [] order lowest = tt
rises_from low (l ∷ ls) order lowest = (lowest l refl, rises_from (l.place + 1) ls (λ i x y a b. order (suc i) x y a (ap (slice_get (l ∷ ls)) (let q : suc i + 1 ≡ suc (i + 1) = omega arith in q) ∙ b)) (λ x a. let lt = order 0 l x refl a in omega arith))

stand_from : (events : List Event) (log : List Logged) → All (StandsIn events) log → StandFrom 0 events log
stand_from events [] a = tt
stand_from events (l ∷ ls) a = (ap (slice_get events) (let q : l.place - 0 ≡ l.place = omega arith in q) ∙ All-head (StandsIn events) l ls a, stand_from events ls (All-tail (StandsIn events) l ls a))

one_of : (P : Passing → Type 0) (p : Passing) (ps : List Passing) → All P ps → IsPassOf p ps → P p
one_of P p [] a i = absurd i
one_of P p (q ∷ qs) a i = ⊎_elim (λ e. subst P e (All-head P q qs a)) (λ more. one_of P p qs (All-tail P q qs a) more) i

pub one_worker : (kind : Event → Bool) (cell : Scheduler) (passes : List Passing) (events : List Event) (pass : Passing) → IsHistory cell passes events → IsPassOf pass passes → HasAllOf kind passes pass.log → filter kind events ≡ filter kind (events_in pass.log)
one_worker kind cell passes events pass h is_pass only = one_log kind 0 events pass.log (rises_from 0 pass.log rises.in_order (λ x a. omega arith)) (stand_from events pass.log stand) covers
  where
    rises : Rises (length pass.seen) pass.log
    rises = one_of (λ (p : Passing). Rises (length p.seen) p.log) pass passes h.in_order is_pass

    stand : All (StandsIn events) pass.log
    stand = one_of (λ (p : Passing). All (StandsIn events) p.log) pass passes h.stand is_pass

    covers : (i : ℕ) (e : Event) → slice_get events i ≡ Some e → kind e ≡ true → HasPlace (0 + i) pass.log
    covers i e at is =
        let logs = all_in (logs_of passes) in
        let f = found i logs (let w = h.once (times i) in let b = there events i e at in let t = hits 0 events i (omega arith) (omega arith) in omega arith) in
        let same : f.0.event ≡ e = some_is f.0.event e (sym (among_stands events logs f.0 (all_stand events passes h.stand) f.1) ∙ ap (slice_get events) f.2 ∙ at) in
        subst (λ (p : ℕ). HasPlace p pass.log) (let q : f.0.place ≡ 0 + i = omega (arith, f.2) in q) (has_place f.0 pass.log (only f.0 f.1 (ap kind same ∙ is)))
