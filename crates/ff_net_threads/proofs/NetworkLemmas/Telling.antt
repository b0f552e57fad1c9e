-- What a history has of what one machine alone tells, or is granted.
use Rattle.std.proofs.Common.{◌≡◌, ◌≢◌, ℕ, ◌<◌, inl, inr, Bool, true, List, [], filter, length, slice_get, slice_index_or, Option, Some, sym, ap, ◌∙◌, subst, arith}
use Rattle.std.proofs.lemmas.Option.{get_or_from_slice_get, slice_get_within}
use Rattle.ff_frame.specs.declared.event.Event.{Event}
use Rattle.ff_frame.specs.declared.event.Event.TheVariants.{Grant}
use Rattle.ff_frame.specs.declared.event.Ticket.{Ticket}
use Rattle.ff_sched.specs.declared.logged.Logged.{Logged}
use Rattle.ff_sched.specs.Histories.{Rises, all_in, logged}
use Rattle.ff_sched.specs.laws.Laws.{HasAllOf, IsEntryOf, IsPassOf, events_in}
use Rattle.ff_sched.specs.laws.Passing.{Passing, Scheduler, IsHistory, logs_of}
use Rattle.ff_sched.proofs.OneWorker.{one_worker}
use Rattle.ff_net.specs.laws.Laws.{Laws}
use Rattle.ff_net.specs.laws.Logs.{tickets_in, told_in}
use Rattle.ff_net.specs.Pasts.{Task}
use Rattle.ff_net.specs.laws.Views.{View}
use Rattle.ff_net.specs.Ways.{Flow}
use Rattle.ff_net.proofs.Flows.{same_or_not}
use Rattle.ff_net_threads.specs.declared.network.run.NodeFault.{NodeFault}
use Rattle.ff_net_threads.specs.laws.network.Scheduling.{AreLogged, IsOnlySource, TellsAlone}
use Rattle.ff_net_threads.proofs.NetworkLemmas.Each.{some_one}
use Rattle.ff_net_threads.proofs.NetworkLemmas.Entries.{all_told, behind_grants, entry_ticket, log_of_entry, no_entry_of, none_before}

-- an event of the history is an entry of the log of one machine
abbrev pub HaveEntries : List Event → List (List Logged) → Type 0
HaveEntries events logs = (p : ℕ) (e : Event) → slice_get events p ≡ Some e → (k : ℕ) × (k < length logs) × IsEntryOf (logged p e) (slice_index_or logs k [])

module _ {M : Type 0} (view : M → View) (laws : (m : M) → Laws (view m)) (tasks : ℕ → Task) (solution : ℕ → Flow) (ins outs : ℕ → List ℕ) (machines : List M)
    (fault : Option NodeFault) (logs : List (List Logged))
    (are : AreLogged view tasks solution ins outs machines fault logs) (count : length logs ≡ length machines) where
  -- another machine has no entry of the kind
  other_none : (k : ℕ) (kind : Event → Bool) → TellsAlone tasks (length machines) k kind → (j : ℕ) → j < length logs → j ≢ k
      → filter kind (events_in (slice_index_or logs j [])) ≡ []
  other_none k kind alone j lt other =
      let there : j < length machines = omega (arith, lt, count) in
      let m = some_one machines j there in
      let part = are.below j m there in
      let past = part.fed.past in
      let log = slice_index_or logs j [] in
      let due : filter kind (past.task.tells past.feeds) ≡ [] = ap (λ (t : Task). filter kind (t.tells past.feeds)) part.fed.task_is
      ∙ alone.no_other j past.feeds there other in
      let told : filter kind past.told ≡ [] = none_before kind past.told (past.task.tells past.feeds)
      ((laws (slice_index_or machines j m)).told past part.fed.fits) due in
      all_told kind alone.no_grant log ∙ none_before kind (told_in log) past.told part.logged.told told

  -- so an entry of the kind is one of the machine
  its_own : (k : ℕ) (kind : Event → Bool) → TellsAlone tasks (length machines) k kind → (j : ℕ) (x : Logged) → j < length logs
      → IsEntryOf x (slice_index_or logs j []) → kind x.event ≡ true → IsEntryOf x (slice_index_or logs k [])
  its_own k kind alone j x lt i is = elim (same_or_not j k) [
    | inl e ↦ subst (λ (n : ℕ). IsEntryOf x (slice_index_or logs n [])) e i
    | inr other ↦ absurd (no_entry_of kind alone.no_grant (slice_index_or logs j []) x i is (other_none k kind alone j lt other))
  ]

  pub told_behind : (events : List Event) → HaveEntries events logs → (k : ℕ) (kind : Event → Bool) → k < length machines → TellsAlone tasks (length machines) k kind
      → Rises (length events) (slice_index_or logs k [])
      → (p i : ℕ) (e : Event) (t : Ticket) → slice_get events p ≡ Some e → kind e ≡ true → slice_get (tickets_in (slice_index_or logs k [])) i ≡ Some t → t.place < p
  told_behind events found k kind lt alone rise p i e t at is ticket =
      let f = found p e at in
      let part = are.below k (some_one machines k lt) lt in
      behind_grants (length events) (slice_index_or logs k []) kind alone.no_grant part.logged.in_order rise (logged p e) i t
      (its_own k kind alone f.0 (logged p e) f.1 f.2 is) is ticket

  pub its_grants : (events : List Event) → HaveEntries events logs → (k s p : ℕ) → IsOnlySource view machines k s → slice_get events p ≡ Some (Grant s)
      → (i : ℕ) × (slice_get (tickets_in (slice_index_or logs k [])) i ≡ Some (record { source = s; place = p }))
  its_grants events found k s p only at =
      let f = found p (Grant s) at in
      let j = f.0 in
      let there : j < length machines = (let lt = f.1 in omega (arith, lt, count)) in
      let m = some_one machines j there in
      let ts = tickets_in (slice_index_or logs j []) in
      let x = entry_ticket s p (slice_index_or logs j []) f.2 in
      let t : Ticket = record { source = s; place = p } in
      let source : (view (slice_index_or machines j m)).source ≡ Some s = subst (λ (u : Ticket). (view (slice_index_or machines j m)).source ≡ Some u.source)
      (get_or_from_slice_get ts x.0 t t x.1) ((are.below j m there).logged.own x.0 t (slice_get_within ts x.0 t x.1)) in
      let same : j ≡ k = only j m there source in
      subst (λ (n : ℕ). (i : ℕ) × (slice_get (tickets_in (slice_index_or logs n [])) i ≡ Some t)) same x

  -- and the history has of the kind what the machine told
  pub told_same : (cell : Scheduler) (events : List Event) (passes : List Passing) (pass : Passing) → IsHistory cell passes events → (k : ℕ) (kind : Event → Bool)
      → TellsAlone tasks (length machines) k kind
      → IsPassOf pass passes → all_in (logs_of passes) ≡ all_in logs → pass.log ≡ slice_index_or logs k []
      → filter kind events ≡ filter kind (told_in (slice_index_or logs k []))
  told_same cell events passes pass h k kind alone of all log =
      let only : HasAllOf kind passes pass.log = λ x i is.
      let f = log_of_entry x logs (subst (IsEntryOf x) all i) in
      subst (IsEntryOf x) (sym log) (its_own k kind alone f.0 x f.1 f.2 is) in
      one_worker kind cell passes events pass h of only ∙ (ap (λ (ls : List Logged). filter kind (events_in ls)) log
      ∙ all_told kind alone.no_grant (slice_index_or logs k []))
