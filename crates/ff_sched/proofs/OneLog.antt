-- What happens to one stream or source is told by one worker, so its events stand in the history in the worker's order.
use Rattle.std.proofs.Common.{◌≡◌, ℕ, suc, ◌+◌, ◌-◌, ◌<◌, ◌≤◌, ◌⊎◌, ⊎_elim, Bool, true, false, List, [], ◌∷◌, map, slice_get, Some, nat_eq, cond, filter, refl, ap, ◌∙◌, subst, arith}
use borrow.Author.Tests.{eqb-true, eqb-false}
use Rattle.ff_frame.specs.declared.event.Event.{Event}
use Rattle.ff_sched.specs.declared.logged.Logged.{Logged}
use Rattle.ff_sched.proofs.Unchoking.{some_is, none_some}

-- the places rise, from n on
abbrev pub RisesFrom : ℕ → List Logged → Type 0
RisesFrom n [] = Unit {0}
RisesFrom n (l ∷ ls) = (n ≤ l.place) × RisesFrom (l.place + 1) ls

-- each entry is the event at its place, where the first event has the place n
abbrev pub StandFrom : ℕ → List Event → List Logged → Type 0
StandFrom n es [] = Unit {0}
StandFrom n es (l ∷ ls) = (slice_get es (l.place - n) ≡ Some l.event) × StandFrom n es ls

abbrev pub HasPlace : ℕ → List Logged → Type 0
HasPlace p [] = ⊥
HasPlace p (l ∷ ls) = (l.place ≡ p) ⊎ HasPlace p ls

-- each event of this kind has an entry in the log
abbrev pub Covers : (Event → Bool) → ℕ → List Event → List Logged → Type 0
Covers P n es log = (i : ℕ) (e : Event) → slice_get es i ≡ Some e → P e ≡ true → HasPlace (n + i) log

rises_less : (n m : ℕ) (log : List Logged) → n ≤ m → RisesFrom m log → RisesFrom n log
rises_less n m [] le r = tt
rises_less n m (l ∷ ls) le r = (let a = r.0 in omega arith, r.1)

no_place : (p n : ℕ) (log : List Logged) → p < n → RisesFrom n log → HasPlace p log → ⊥
no_place p n [] lt r h = h
no_place p n (l ∷ ls) lt r h = ⊎_elim (λ e. let a = r.0 in omega arith) (λ more. no_place p (l.place + 1) ls (let a = r.0 in omega arith) r.1 more) h

stand_next : (n : ℕ) (e : Event) (es : List Event) (log : List Logged) → RisesFrom (n + 1) log → StandFrom n (e ∷ es) log → StandFrom (n + 1) es log
stand_next n e es [] r s = tt
stand_next n e es (l ∷ ls) r s = (
  ap (slice_get (e ∷ es)) (let a = r.0 in let q : suc (l.place - (n + 1)) ≡ l.place - n = omega arith in q) ∙ s.0,
  stand_next n e es ls (rises_less (n + 1) (l.place + 1) ls (let a = r.0 in omega arith) r.1) s.1,
)

-- the events of this kind are those of the log, in its order
pub one_log : (P : Event → Bool) (n : ℕ) (es : List Event) (log : List Logged) → RisesFrom n log → StandFrom n es log → Covers P n es log → filter P es ≡ filter P (map (λ l. l.event) log)
one_log P n [] [] r s c = refl
one_log P n [] (l ∷ ls) r s c = absurd (none_some l.event s.0)
one_log P n (e ∷ es) [] r s c = split (P e) refl (one_log P (n + 1) es [] tt tt (λ i x at is. c (suc i) x at is))
  where
    split : (b : Bool) → P e ≡ b → filter P es ≡ [] → cond b (e ∷ filter P es) (filter P es) ≡ []
    split true is rest = absurd (c 0 e refl is)
    split false is rest = rest
one_log P n (e ∷ es) (l ∷ ls) r s c = split (nat_eq l.place n) refl
    (λ here. one_log P (n + 1) es ls (subst (λ (p : ℕ). RisesFrom (p + 1) ls) here r.1) (stand_next n e es ls (subst (λ (p : ℕ). RisesFrom (p + 1) ls) here r.1) s.1)
    (λ i x at is. ⊎_elim (λ q. absurd (let h = here in omega arith)) (λ more. subst (λ (p : ℕ). HasPlace p ls) (let q : n + suc i ≡ n + 1 + i = omega arith in q) more) (c (suc i) x at is)))
    (λ later. one_log P (n + 1) es (l ∷ ls) (later, r.1) (stand_next n e es (l ∷ ls) (later, r.1) s)
    (λ i x at is. subst (λ (p : ℕ). HasPlace p (l ∷ ls)) (let q : n + suc i ≡ n + 1 + i = omega arith in q) (c (suc i) x at is)))
  where
    same : filter P es ≡ filter P (map (λ (x : Logged). x.event) ls) → l.place ≡ n → filter P (e ∷ es) ≡ filter P (l.event ∷ map (λ (x : Logged). x.event) ls)
    same rest here = let is : e ≡ l.event = some_is e l.event (ap (slice_get (e ∷ es)) (let q : 0 ≡ l.place - n = omega (arith, here) in q) ∙ s.0) in
        λ i. cond (P (is i)) (is i ∷ rest i) (rest i)

    skips : (b : Bool) → P e ≡ b → n + 1 ≤ l.place → filter P es ≡ filter P (map (λ (x : Logged). x.event) (l ∷ ls)) → cond b (e ∷ filter P es) (filter P es) ≡ filter P (map (λ (x : Logged). x.event) (l ∷ ls))
    skips true is later rest = absurd (no_place (n + 0) (n + 1) (l ∷ ls) (omega arith) (later, r.1) (c 0 e refl is))
    skips false is later rest = rest

    split : (b : Bool) → nat_eq l.place n ≡ b → (l.place ≡ n → filter P es ≡ filter P (map (λ (x : Logged). x.event) ls)) → (n + 1 ≤ l.place → filter P es ≡ filter P (map (λ (x : Logged). x.event) (l ∷ ls))) → filter P (e ∷ es) ≡ filter P (map (λ (x : Logged). x.event) (l ∷ ls))
    split true is here later = let q = eqb-true l.place n is in same (here q) q
    split false is here later = let ne = eqb-false l.place n is in let m : n + 1 ≤ l.place = (let a = r.0 in omega arith) in skips (P e) refl m (later m)
