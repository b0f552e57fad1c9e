-- The entries of logs: where they stand, and in which order.
use Rattle.std.proofs.Common.{◌≡◌, ℕ, zero, suc, ◌+◌, ◌<◌, ◌⊎◌, inl, inr, Bool, true, false, cond, filter, nat_eq, All, List, [], ◌∷◌, ◌++◌, length, slice_get}
use Rattle.std.proofs.Common.{slice_index_or, Some, refl, sym, ap, ◌∙◌, subst, arith}
use borrow.Author.Tests.{eqb-true, eqb-false}
use mathlib.Core.List.{IsPrefix}
use Rattle.std.proofs.lemmas.List.Elements.{All-head, All-tail, filter-append}
use Rattle.ff_frame.specs.declared.event.Event.{Event}
use Rattle.ff_frame.specs.declared.event.Event.TheVariants.{Grant, Sent, Finished, Best, Exited}
use Rattle.ff_frame.specs.declared.event.Ticket.{Ticket}
use Rattle.ff_sched.specs.declared.logged.Logged.{Logged}
use Rattle.ff_sched.specs.Histories.{Rises, StandsIn, all_in, logged, numbered, weigh}
use Rattle.ff_sched.specs.laws.Laws.{IsEntryOf, IsPassOf, events_in}
use Rattle.ff_sched.specs.laws.Passing.{Passing}
use Rattle.ff_sched.proofs.Closing.{hits, there, times, times_other}
use Rattle.ff_sched.proofs.Histories.{weigh-append}
use Rattle.ff_sched.proofs.Unchoking.{some_is}
use Rattle.ff_net.specs.laws.Logs.{GrantsFirst, telling_of, ticket_of, tickets_in, told_in}
use Rattle.ff_net.proofs.Logs.{tickets_append}
use Rattle.ff_net_threads.proofs.NetworkLemmas.Grants.{HasGrant, above_first, rises_tail, ticket_entry}

-- the entry at a place
abbrev HasPlace : ℕ → List Logged → Type 0
HasPlace p xs = (x : Logged) × IsEntryOf x xs × (x.place ≡ p)

in_log : (p : ℕ) (xs : List Logged) (more : ℕ) → 0 < weigh (times p) xs + more → HasPlace p xs ⊎ (0 < more)
in_log p [] more lt = inr (omega (arith, lt))
in_log p (x ∷ xs) more lt = pick (nat_eq x.place p) refl (λ rest. in_log p xs more rest)
  where
    pick : (b : Bool) → nat_eq x.place p ≡ b → (0 < weigh (times p) xs + more → HasPlace p xs ⊎ (0 < more)) → HasPlace p (x ∷ xs) ⊎ (0 < more)
    pick true q on = inl (x, inl refl, eqb-true x.place p q)
    pick false q on = elim (on (let z = times_other p x (eqb-false x.place p q) in omega (arith, lt, z))) [ inl f ↦ inl (f.0, inr f.1, f.2) | inr r ↦ inr r ]

in_logs : (p : ℕ) (ls : List (List Logged)) → 0 < weigh (times p) (all_in ls) → (k : ℕ) × (k < length ls) × HasPlace p (slice_index_or ls k [])
in_logs p [] lt = absurd (omega (arith, lt))
in_logs p (l ∷ ls) lt = elim (in_log p l (weigh (times p) (all_in ls)) (let sum = weigh-append (times p) l (all_in ls) in omega (arith, lt, sum))) [
  | inl f ↦ (0, omega arith, f)
  | inr r ↦ (let f = in_logs p ls r in (suc f.0, (let k = f.1 in omega (arith, k)), f.2))
]

of_entry : (P : Logged → Type 0) (xs : List Logged) (x : Logged) → All P xs → IsEntryOf x xs → P x
of_entry P [] x all i = absurd i
of_entry P (l ∷ ls) x all i = elim (i) [ inl e ↦ subst P e (All-head P l ls all) | inr more ↦ of_entry P ls x (All-tail P l ls all) more ]

-- each event of a history is an entry of a log, where however entries are weighed all logs weigh what the history weighs
pub event_entry : (events : List Event) (logs : List (List Logged)) → ((k : ℕ) → All (StandsIn events) (slice_index_or logs k []))
    → ((h : Logged → ℕ) → weigh h (all_in logs) ≡ weigh h (numbered 0 events))
    → (p : ℕ) (e : Event) → slice_get events p ≡ Some e → (k : ℕ) × (k < length logs) × IsEntryOf (logged p e) (slice_index_or logs k [])
event_entry events logs stand once p e at =
    let some = hits 0 events p (omega arith) (let lt = there events p e at in omega (arith, lt)) in
    let same = once (times p) in
    let f = in_logs p logs (omega (arith, some, same)) in
    let x = f.2.0 in
    let stands : slice_get events x.place ≡ Some x.event = of_entry (StandsIn events) (slice_index_or logs f.0 []) x (stand f.0) f.2.1 in
    let event : x.event ≡ e = some_is x.event e (sym stands ∙ (ap (λ (q : ℕ). slice_get events q) f.2.2 ∙ at)) in
    let is : x ≡ logged p e = ap (λ (q : ℕ). logged q x.event) f.2.2 ∙ ap (λ (v : Event). logged p v) event in
    (f.0, f.1, subst (λ (y : Logged). IsEntryOf y (slice_index_or logs f.0 [])) is f.2.1)

-- an entry of all logs is one of a log
in_one : (x : Logged) (xs ys : List Logged) → IsEntryOf x (xs ++ ys) → IsEntryOf x xs ⊎ IsEntryOf x ys
in_one x [] ys i = inr i
in_one x (l ∷ ls) ys i = elim (i) [ inl e ↦ inl (inl e) | inr more ↦ elim (in_one x ls ys more) [ inl f ↦ inl (inr f) | inr s ↦ inr s ] ]

pub log_of_entry : (x : Logged) (ls : List (List Logged)) → IsEntryOf x (all_in ls) → (k : ℕ) × (k < length ls) × IsEntryOf x (slice_index_or ls k [])
log_of_entry x [] i = absurd i
log_of_entry x (l ∷ ls) i = elim (in_one x l (all_in ls) i) [
  | inl f ↦ (0, omega arith, f)
  | inr r ↦ (let f = log_of_entry x ls r in (suc f.0, (let k = f.1 in omega (arith, k)), f.2))
]

pub pass_of_list : (ps : List Passing) (r d : Passing) (k : ℕ) → k < length ps → IsPassOf (slice_index_or ps k d) (ps ++ r ∷ [])
pass_of_list [] r d k lt = absurd (omega (arith, lt))
pass_of_list (p ∷ ps) r d zero lt = inl refl
pass_of_list (p ∷ ps) r d (suc k) lt = inr (pass_of_list ps r d k (omega (arith, lt)))

-- lists that are empty together
pub first_empty : (xs ys : List Event) → xs ++ ys ≡ [] → xs ≡ []
first_empty [] ys e = refl
first_empty (x ∷ xs) ys e = absurd (cc (e))

second_empty : (xs ys : List Event) → xs ++ ys ≡ [] → ys ≡ []
second_empty [] ys e = e
second_empty (x ∷ xs) ys e = absurd (cc (e))

-- of a kind that no front of a list has
pub none_before : (kind : Event → Bool) (xs ys : List Event) → IsPrefix xs ys → filter kind ys ≡ [] → filter kind xs ≡ []
none_before kind xs ys front none = first_empty (filter kind xs) (filter kind front.0) (sym (filter-append kind xs front.0) ∙ (ap (filter kind) front.1 ∙ none))

module _ (kind : Event → Bool) (no_grant : (s : ℕ) → kind (Grant s) ≡ false) where
  one_told : (v : Event) (es ts : List Event) → filter kind es ≡ filter kind ts → filter kind (v ∷ es) ≡ filter kind (telling_of v ++ ts)
  one_told (Grant s) es ts e = ap (λ (b : Bool). cond b (Grant s ∷ filter kind es) (filter kind es)) (no_grant s) ∙ e
  one_told (Sent j u) es ts e = ap (λ (xs : List Event). cond (kind (Sent j u)) (Sent j u ∷ xs) xs) e
  one_told (Finished j) es ts e = ap (λ (xs : List Event). cond (kind (Finished j)) (Finished j ∷ xs) xs) e
  one_told (Best g i) es ts e = ap (λ (xs : List Event). cond (kind (Best g i)) (Best g i ∷ xs) xs) e
  one_told (Exited s) es ts e = ap (λ (xs : List Event). cond (kind (Exited s)) (Exited s ∷ xs) xs) e

  -- events of a kind that isn't granted are among those that were told
  pub all_told : (log : List Logged) → filter kind (events_in log) ≡ filter kind (told_in log)
  all_told [] = refl
  all_told (l ∷ ls) = one_told l.event (events_in ls) (told_in ls) (all_told ls)

  some_told : (v : Event) → kind v ≡ true → telling_of v ≡ [] → ⊥
  some_told (Grant s) is e = (let no : true ≡ false = sym is ∙ no_grant s in cc (no))
  some_told (Sent j u) is e = cc (e)
  some_told (Finished j) is e = cc (e)
  some_told (Best g i) is e = cc (e)
  some_told (Exited s) is e = cc (e)

  -- a log that told none of the kind has no entry of it
  pub no_entry_of : (xs : List Logged) (x : Logged) → IsEntryOf x xs → kind x.event ≡ true → filter kind (events_in xs) ≡ [] → ⊥
  no_entry_of [] x i is none = i
  no_entry_of (l ∷ ls) x i is none = elim (i) [
    | inl e ↦ (let here : kind l.event ≡ true = ap (λ (y : Logged). kind y.event) e ∙ is in
        let some : l.event ∷ filter kind (events_in ls) ≡ [] = sym (ap (λ (b : Bool). cond b (l.event ∷ filter kind (events_in ls))
        (filter kind (events_in ls))) here) ∙ none in cc (some))
    | inr more ↦ no_entry_of ls x more is (drop (kind l.event) refl)
  ]
    where
      drop : (b : Bool) → kind l.event ≡ b → filter kind (events_in ls) ≡ []
      drop true e = absurd (let some : l.event ∷ filter kind (events_in ls) ≡ [] = sym
          (ap (λ (b : Bool). cond b (l.event ∷ filter kind (events_in ls)) (filter kind (events_in ls))) e) ∙ none in cc (some))
      drop false e = sym (ap (λ (b : Bool). cond b (l.event ∷ filter kind (events_in ls)) (filter kind (events_in ls))) e) ∙ none

  -- an entry of the kind stands behind the grants
  in_tellings : (grants tellings : List Logged) (x : Logged) → told_in grants ≡ [] → IsEntryOf x (grants ++ tellings) → kind x.event ≡ true → IsEntryOf x tellings
  in_tellings [] tellings x none i is = i
  in_tellings (g ∷ gs) tellings x none i is = elim (i) [
    | inl e ↦ absurd (some_told g.event (ap (λ (y : Logged). kind y.event) e ∙ is) (first_empty (telling_of g.event) (told_in gs) none))
    | inr more ↦ in_tellings gs tellings x (second_empty (telling_of g.event) (told_in gs) none) more is
  ]

entry_index : (xs : List Logged) (x : Logged) → IsEntryOf x xs → (k : ℕ) × (k < length xs) × ((d : Logged) → slice_index_or xs k d ≡ x)
entry_index [] x i = absurd i
entry_index (l ∷ ls) x i = elim (i) [
  | inl e ↦ (0, omega arith, λ d. e)
  | inr more ↦ (let f = entry_index ls x more in (suc f.0, (let k = f.1 in omega (arith, k)), f.2))
]

in_second : (xs ys : List Logged) (x : Logged) → IsEntryOf x ys → IsEntryOf x (xs ++ ys)
in_second [] ys x i = i
in_second (l ∷ ls) ys x i = inr (in_second ls ys x i)

after_grant : (n : ℕ) (grants tellings : List Logged) (x : Logged) (t : Ticket) → Rises n (grants ++ tellings) → HasGrant grants t → IsEntryOf x tellings
    → t.place < x.place
after_grant n [] tellings x t r (k, lt, is) i = absurd (omega (arith, lt))
after_grant n (g ∷ gs) tellings x t r (zero, lt, is) i =
    let f = entry_index (gs ++ tellings) x (in_second gs tellings x i) in
    let above : g.place < (slice_index_or (gs ++ tellings) f.0 g).place = above_first n g (gs ++ tellings) r f.0 g f.1 in
    let mine : g.place ≡ t.place = ap (λ (y : Logged). y.place) (is g) in
    let other : (slice_index_or (gs ++ tellings) f.0 g).place ≡ x.place = ap (λ (y : Logged). y.place) (f.2 g) in
    omega (arith, above, mine, other)
after_grant n (g ∷ gs) tellings x t r (suc k, lt, is) i = after_grant n gs tellings x t (rises_tail n g (gs ++ tellings) r) (k, omega (arith, lt), is) i

pub behind_grants : (n : ℕ) (log : List Logged) (kind : Event → Bool) → ((s : ℕ) → kind (Grant s) ≡ false) → GrantsFirst log → Rises n log
    → (x : Logged) (i : ℕ) (t : Ticket) → IsEntryOf x log → kind x.event ≡ true → slice_get (tickets_in log) i ≡ Some t → t.place < x.place
behind_grants n log kind no_grant first rise x i t entry is at =
    let grants = first.grants in
    let tellings = first.tellings in
    let all : tickets_in log ≡ tickets_in grants ++ [] = ap tickets_in first.all
    ∙ (tickets_append grants tellings ∙ ap (λ (ts : List Ticket). tickets_in grants ++ ts) first.no_grants) in
    let here : slice_get (tickets_in grants) i ≡ Some t = ap (λ (ts : List Ticket). slice_get ts i) (sym (all ∙ nothing_more (tickets_in grants))) ∙ at in
    after_grant n grants tellings x t (subst (Rises n) first.all rise) (ticket_entry grants i t here)
    (in_tellings kind no_grant grants tellings x first.only_grants (subst (IsEntryOf x) first.all entry) is)
  where
    nothing_more : (ts : List Ticket) → ts ++ [] ≡ ts
    nothing_more [] = refl
    nothing_more (u ∷ us) = ap (λ (vs : List Ticket). u ∷ vs) (nothing_more us)

-- an entry that is a grant is a ticket
abbrev IsTicketOf : List Ticket → ℕ → ℕ → Type 0
IsTicketOf ts s p = (i : ℕ) × (slice_get ts i ≡ Some (record { source = s; place = p }))

ticket_here : (l : Logged) (s p : ℕ) (ts : List Ticket) → l ≡ logged p (Grant s) → IsTicketOf (ticket_of l.event l.place ++ ts) s p
ticket_here l s p ts e = subst (λ (y : Logged). IsTicketOf (ticket_of y.event y.place ++ ts) s p) (sym e) (0, refl)

ticket_later : (v : Event) (q s p : ℕ) (ts : List Ticket) → IsTicketOf ts s p → IsTicketOf (ticket_of v q ++ ts) s p
ticket_later (Grant k) q s p ts f = (suc f.0, f.1)
ticket_later (Sent j u) q s p ts f = f
ticket_later (Finished j) q s p ts f = f
ticket_later (Best g i) q s p ts f = f
ticket_later (Exited k) q s p ts f = f

pub entry_ticket : (s p : ℕ) (log : List Logged) → IsEntryOf (logged p (Grant s)) log → IsTicketOf (tickets_in log) s p
entry_ticket s p [] i = absurd i
entry_ticket s p (l ∷ ls) i = elim (i) [
  | inl e ↦ ticket_here l s p (tickets_in ls) e
  | inr more ↦ ticket_later l.event l.place s p (tickets_in ls) (entry_ticket s p ls more)
]
