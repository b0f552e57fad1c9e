-- The grants of a log, as tickets: where they stand, and in which order.
use Rattle.std.proofs.Common.{◌≡◌, ℕ, zero, suc, ◌+◌, ◌<◌, All, List, [], ◌∷◌, ◌++◌, length, slice_get, slice_index_or, Some, refl, ap, ◌∙◌, subst, arith}
use Rattle.ff_frame.specs.declared.event.Event.{Event}
use Rattle.ff_frame.specs.declared.event.Event.TheVariants.{Grant, Sent, Finished, Best, Exited}
use Rattle.ff_frame.specs.declared.event.Ticket.{Ticket}
use Rattle.ff_sched.specs.declared.logged.Logged.{Logged}
use Rattle.ff_sched.specs.Histories.{Rises, StandsIn, logged}
use Rattle.ff_net.specs.laws.Logs.{ticket_of, tickets_in}

-- an entry of a log is the grant of a ticket
abbrev pub HasGrant : List Logged → Ticket → Type 0
HasGrant log t = (k : ℕ) × (k < length log) × ((d : Logged) → slice_index_or log k d ≡ logged t.place (Grant t.source))

one_more : (l : Logged) (ls : List Logged) (t : Ticket) → HasGrant ls t → HasGrant (l ∷ ls) t
one_more l ls t h = (suc h.0, (let lt : h.0 < length ls = h.1 in omega (arith, lt)), h.2)

one_entry : (l : Logged) (v : Event) (ls : List Logged) (t : Ticket) → l.event ≡ v → ((j : ℕ) → slice_get (tickets_in ls) j ≡ Some t → HasGrant ls t) → (i : ℕ)
    → slice_get (ticket_of v l.place ++ tickets_in ls) i ≡ Some t → HasGrant (l ∷ ls) t
one_entry l (Grant s) ls t is rest zero e =
    let u : Ticket = record { source = s; place = l.place } in
    let same : u ≡ t = cc (e) in
    (zero, omega arith, λ d. ap (λ (x : Event). logged l.place x) is ∙ ap (λ (x : Ticket). logged x.place (Grant x.source)) same)
one_entry l (Grant s) ls t is rest (suc i) e = one_more l ls t (rest i e)
one_entry l (Sent j u) ls t is rest i e = one_more l ls t (rest i e)
one_entry l (Finished j) ls t is rest i e = one_more l ls t (rest i e)
one_entry l (Best g j) ls t is rest i e = one_more l ls t (rest i e)
one_entry l (Exited s) ls t is rest i e = one_more l ls t (rest i e)

no_ticket : (i : ℕ) (t : Ticket) → slice_get [] i ≡ Some t → ⊥
no_ticket zero t e = cc (e)
no_ticket (suc i) t e = cc (e)

pub ticket_entry : (log : List Logged) (i : ℕ) (t : Ticket) → slice_get (tickets_in log) i ≡ Some t → HasGrant log t
ticket_entry [] i t e = absurd (no_ticket i t e)
ticket_entry (l ∷ ls) i t e = one_entry l l.event ls t refl (λ j f. ticket_entry ls j t f) i e

-- so it stands in the history
pub grant_stands : (events : List Event) (log : List Logged) → All (StandsIn events) log → (i : ℕ) (t : Ticket) → slice_get (tickets_in log) i ≡ Some t
    → slice_get events t.place ≡ Some (Grant t.source)
grant_stands events log all i t e =
    let h = ticket_entry log i t e in
    let d : Logged = logged t.place (Grant t.source) in
    subst (λ (l : Logged). StandsIn events l) (h.2 d) (all h.0 d h.1)

pub rises_tail : (n : ℕ) (l : Logged) (ls : List Logged) → Rises n (l ∷ ls) → Rises n ls
rises_tail n l ls r = record {
  below = λ k d lt. r.below (suc k) d (omega (arith, lt));
  in_order = λ i x y a b. r.in_order (suc i) x y a (let e : suc i + 1 ≡ suc (i + 1) = omega arith in ap (λ (k : ℕ). slice_get (l ∷ ls) k) e ∙ b);
}

pub above_first : (n : ℕ) (l : Logged) (ls : List Logged) → Rises n (l ∷ ls) → (k : ℕ) (d : Logged) → k < length ls → l.place < (slice_index_or ls k d).place
above_first n l [] r k d lt = absurd (omega (arith, lt))
above_first n l (x ∷ xs) r zero d lt = r.in_order 0 l x refl refl
above_first n l (x ∷ xs) r (suc k) d lt =
    let a : l.place < x.place = r.in_order 0 l x refl refl in
    let b = above_first n x xs (rises_tail n l (x ∷ xs) r) k d (omega (arith, lt)) in
    omega (arith, a, b)

one_rise : (l : Logged) (v : Event) (ls : List Logged) (t u : Ticket) → ((j : ℕ) (w : Ticket) → slice_get (tickets_in ls) j ≡ Some w → l.place < w.place)
    → ((j : ℕ) → slice_get (tickets_in ls) j ≡ Some t → slice_get (tickets_in ls) (j + 1) ≡ Some u → t.place < u.place)
    → (i : ℕ) → slice_get (ticket_of v l.place ++ tickets_in ls) i ≡ Some t → slice_get (ticket_of v l.place ++ tickets_in ls) (i + 1) ≡ Some u → t.place < u.place
one_rise l (Grant s) ls t u above rest zero e f =
    let w : Ticket = record { source = s; place = l.place } in
    let same : w ≡ t = cc (e) in
    subst (λ (x : Ticket). x.place < u.place) same (above 0 u f)
one_rise l (Grant s) ls t u above rest (suc i) e f =
    let w : Ticket = record { source = s; place = l.place } in
    let next : suc (i + 1) ≡ suc i + 1 = omega arith in
    rest i e (ap (λ (k : ℕ). slice_get (w ∷ tickets_in ls) k) next ∙ f)
one_rise l (Sent j x) ls t u above rest i e f = rest i e f
one_rise l (Finished j) ls t u above rest i e f = rest i e f
one_rise l (Best g j) ls t u above rest i e f = rest i e f
one_rise l (Exited s) ls t u above rest i e f = rest i e f

-- the places of its tickets rise
pub tickets_rise : (n : ℕ) (log : List Logged) → Rises n log → (i : ℕ) (t u : Ticket) → slice_get (tickets_in log) i ≡ Some t
    → slice_get (tickets_in log) (i + 1) ≡ Some u → t.place < u.place
tickets_rise n [] r i t u e f = absurd (no_ticket i t e)
tickets_rise n (l ∷ ls) r i t u e f =
    one_rise l l.event ls t u
    (λ j w g. let h = ticket_entry ls j w g in let d : Logged = logged w.place (Grant w.source) in subst (λ (x : Logged). l.place < x.place) (h.2 d)
    (above_first n l ls r h.0 d h.1))
    (λ j g h. tickets_rise n ls (rises_tail n l ls r) j t u g h)
    i e f
