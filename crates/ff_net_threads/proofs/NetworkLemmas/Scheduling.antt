-- The history of a run, from the logs of its passes.
use Rattle.std.proofs.Common.{◌≡◌, ℕ, zero, suc, ◌+◌, ◌-◌, ◌*◌, ◌^◌, ◌<◌, ◌≤◌, ◌⊎◌, inl, inr, All, List, [], ◌∷◌, ◌++◌, length, slice_get, slice_index_or, sum_by}
use Rattle.std.proofs.Common.{Option, None, Some, IfSome, refl, sym, ap, ◌∙◌, subst, arith, append-nil, length-append}
use Rattle.std.proofs.lemmas.List.{length-map}
use Rattle.std.proofs.lemmas.List.Sums.{sum_by-append, sum_by-cons}
use Rattle.ff_frame.specs.declared.event.Event.{Event}
use Rattle.ff_frame.specs.declared.event.Event.TheVariants.{Grant}
use Rattle.ff_frame.specs.declared.event.Ticket.{Ticket}
use Rattle.ff_sched.specs.declared.logged.Logged.{Logged}
use Rattle.ff_sched.specs.declared.routes.Routes.{Routes}
use Rattle.ff_sched.specs.Histories.{IsLegal, Rises, StandsIn, StartsWith, all_in, numbered, weigh}
use Rattle.ff_sched.specs.laws.Passing.{Passing, Scheduler, IsHistory, IsSplit, logs_of}
use Rattle.ff_sched.specs.State.{State}
use Rattle.ff_net.specs.laws.Laws.{Laws}
use Rattle.ff_net.specs.laws.Logs.{PassStep, tickets_in}
use Rattle.ff_net.specs.Pasts.{Task}
use Rattle.ff_net.specs.laws.Views.{View}
use Rattle.ff_net.specs.Ways.{Flow}
use Rattle.ff_net_threads.specs.declared.links.linked.Linked.{Linked}
use Rattle.ff_net_threads.specs.declared.network.run.NodeFault.{NodeFault}
use Rattle.ff_net_threads.specs.laws.network.Scheduling.{AllPassed, AreLogged, AreSeated, Scheduled, logs_in, new_pass, node_share}
use Rattle.ff_net_threads.proofs.NetworkLemmas.Each.{at_before, at_end, some_one, each_next}
use Rattle.ff_net_threads.proofs.NetworkLemmas.Grants.{grant_stands, tickets_rise}
use Rattle.ff_net_threads.proofs.NetworkLemmas.Entries.{event_entry, pass_of_list}
use Rattle.ff_net_threads.proofs.NetworkLemmas.Reading.{reads_under}
use Rattle.ff_net_threads.proofs.NetworkLemmas.Telling.{HaveEntries, its_grants, told_behind, told_same}

-- a pass of which another was split off
pub split_new : (cell : Scheduler) (share n : ℕ) (p q r : Passing) → p ≡ new_pass cell share → IsSplit p n q r → (q ≡ new_pass cell (share - n)) × (r ≡ new_pass cell n)
split_new cell share n p q r is h =
    let less : Passing → Passing = λ x. record x { share = x.share - n } in
    let part : Passing → Passing = λ x. record x { share = n; log = []; spare = 0 } in
    (h.0 ∙ ap less is, h.1 ∙ ap part is)

rises_more : (m n : ℕ) (log : List Logged) → m ≤ n → Rises m log → Rises n log
rises_more m n log le r = record { below = λ k d lt. (let b = r.below k d lt in omega (arith, b, le)); in_order = r.in_order }

-- the log of a number, or none
log_case : (ps : List Passing) (k : ℕ) → ((k < length ps) × ((d : Passing) → slice_index_or (logs_in ps) k [] ≡ (slice_index_or ps k d).log)) ⊎ (slice_index_or (logs_in ps) k [] ≡ [])
log_case [] zero = inr refl
log_case [] (suc k) = inr refl
log_case (p ∷ ps) zero = inl (omega arith, λ d. refl)
log_case (p ∷ ps) (suc k) = elim (log_case ps k) [ inl h ↦ inl ((let lt : k < length ps = h.0 in omega (arith, lt)), h.1) | inr e ↦ inr e ]

log_here : (ps : List Passing) (d : Passing) (k : ℕ) → k < length ps → slice_index_or (logs_in ps) k [] ≡ (slice_index_or ps k d).log
log_here [] d k lt = absurd (omega (arith, lt))
log_here (p ∷ ps) d zero lt = refl
log_here (p ∷ ps) d (suc k) lt = log_here ps d k (omega (arith, lt))

-- what holds of the log of each pass holds of the logs by number
by_number : (P : List Logged → Type 0) (ps : List Passing) (r : Passing) → P [] → All (λ p. P p.log) (ps ++ r ∷ []) → (k : ℕ) → P (slice_index_or (logs_in ps) k [])
by_number P ps r none all k = elim (log_case ps k) [
  | inl h ↦
      let there : k < length (ps ++ r ∷ []) = (let lt : k < length ps = h.0 in let n = length-append ps (r ∷ []) in omega (arith, lt, n)) in
      subst P (sym (h.1 r)) (subst (λ (p : Passing). P p.log) (at_before ps r r k h.0) (all k r there))
  | inr e ↦ subst P (sym e) none
]

all_but_last : (ps : List Passing) (r : Passing) → r.log ≡ [] → all_in (logs_of (ps ++ r ∷ [])) ≡ all_in (logs_in ps)
all_but_last [] r e = append-nil r.log ∙ e
all_but_last (p ∷ ps) r e = ap (λ (ls : List Logged). p.log ++ ls) (all_but_last ps r e)

within : (events seen : List Event) → StartsWith events seen → length seen ≤ length events
within events seen s = (let e : length events ≡ length (seen ++ s.0) = ap length s.1 in let n = length-append seen s.0 in omega (arith, e, n))

-- the passes have all events of the cell
shares : (n : ℕ) (ps : List Passing) → ((k : ℕ) (d : Passing) → k < length ps → (slice_index_or ps k d).share ≡ n) → sum_by (λ p. p.share) ps ≡ length ps * n
shares n [] h = (let z : 0 * n ≡ 0 = omega arith in sym z)
shares n (p ∷ ps) h =
    let f : Passing → ℕ = λ q. q.share in
    let first : p.share ≡ n = h 0 p (omega arith) in
    let others = shares n ps (λ k d lt. h (suc k) d (omega (arith, lt))) in
    let sum = sum_by-cons f p ps in
    let count : length (p ∷ ps) * n ≡ n + length ps * n = omega arith in
    omega (arith, first, others, sum, count)

module _ {M : Type 0} (cell : Scheduler) (nodes : List (Linked M)) (rest : Passing) (passes : List Passing) (seated : AreSeated cell nodes rest) (passed : AllPassed nodes passes) where
  step_at : (k : ℕ) (d : Passing) → k < length passes → PassStep (new_pass cell node_share) (slice_index_or passes k d)
  step_at k d lt =
      let here : k < length nodes = (let n = passed.count in omega (arith, lt, n)) in
      let l = some_one nodes k here in
      subst (λ (p : Passing). PassStep p (slice_index_or passes k d)) (seated.each k l here) (passed.each k l d here)

  pub of_cell : All (λ p. p.cell ≡ cell) (passes ++ rest ∷ [])
  of_cell k d lt =
      let many = length-append passes (rest ∷ []) in
      each_next (λ j. (slice_index_or (passes ++ rest ∷ []) j d).cell ≡ cell) (length passes)
      (λ j l. ap (λ (p : Passing). p.cell) (at_before passes rest d j l) ∙ (step_at j d l).cell)
      (ap (λ (p : Passing). p.cell) (at_end passes rest d ∙ seated.rest))
      k (omega (arith, lt, many))

  pub all_shares : length nodes < 2 ^ 16 → sum_by (λ p. p.share) (passes ++ rest ∷ []) ≡ 2 ^ 62
  all_shares few =
      let f : Passing → ℕ = λ p. p.share in
      let each = shares node_share passes (λ k d lt. (step_at k d lt).share) in
      let left : rest.share ≡ 2 ^ 62 - length nodes * node_share = ap f seated.rest in
      let count : length passes ≡ length nodes = passed.count in
      let sum = sum_by-append f passes (rest ∷ []) in
      let one = sum_by-cons f rest [] in
      omega (arith, each, left, count, sum, one, few)

  module _ (view : M → View) (routes : Routes) (state : State) (known : (ℕ → Task) → Type 0) (solution : (ℕ → Task) → ℕ → Flow) (ins outs : ℕ → List ℕ) (machines : List M) (fault : Option NodeFault) (events : List Event) where
    pub scheduled : ((m : M) → Laws (view m)) → cell.routes ≡ routes → cell.opening ≡ state → length machines ≡ length nodes → IsHistory cell (passes ++ rest ∷ []) events
        → ((tasks : ℕ → Task) → known tasks → AreLogged view tasks (solution tasks) ins outs machines fault (logs_in passes))
        → Scheduled view routes state known solution ins outs machines fault events
    scheduled laws same_routes same_state count h logged_all =
        let stand : (k : ℕ) → All (StandsIn events) (slice_index_or (logs_in passes) k []) = by_number (All (StandsIn events)) passes rest (λ i d lt. absurd (omega (arith, lt))) h.stand in
        let rise : (k : ℕ) → Rises (length events) (slice_index_or (logs_in passes) k []) =
        by_number (Rises (length events)) passes rest (record { below = λ i d lt. absurd (omega (arith, lt)); in_order = λ i x y a b. absurd (no_entry i x a) })
        (λ k d lt. rises_more _ _ _ (within events _ (h.seen k d lt)) (h.in_order k d lt)) in
        let tickets : ℕ → List Ticket = λ k. tickets_in (slice_index_or (logs_in passes) k []) in
        let granted : (k i : ℕ) (t : Ticket) → slice_get (tickets k) i ≡ Some t
        → slice_get events t.place ≡ Some (Grant t.source) = λ k i t e. grant_stands events (slice_index_or (logs_in passes) k []) (stand k) i t e in
        let ordered : (k i : ℕ) (t u : Ticket) → slice_get (tickets k) i ≡ Some t → slice_get (tickets k) (i + 1) ≡ Some u → t.place < u.place =
        λ k i t u e f. tickets_rise (length events) (slice_index_or (logs_in passes) k []) (rise k) i t u e f in
        let once : (w : Logged → ℕ) → weigh w (all_in (logs_in passes)) ≡ weigh w (numbered 0 events) = λ w. sym (ap (weigh w) all) ∙ h.once w in
        let many : length (logs_in passes) ≡ length machines = length-map passes (λ (p : Passing). p.log) ∙ (passed.count ∙ sym count) in
        let found : HaveEntries events (logs_in passes) = event_entry events (logs_in passes) stand once in record {
          legal = subst (λ (r : Routes). IsLegal r state events) same_routes (subst (λ (s : State). IsLegal cell.routes s events) same_state h.legal);
          logs = logs_in passes;
          as_many = many;
          stand = stand;
          rise = rise;
          once = once;
          granted = granted;
          in_order = ordered;
          reads = λ k e past lt stood l. reads_under (view (slice_index_or machines k e)) past (slice_index_or (logs_in passes) k []) l events
              ((laws (slice_index_or machines k e)).tried_allowed past stood) (granted k) (ordered k);
          logged = logged_all;
          told = λ tasks κ k kind lt alone. (let here : k < length passes = (let n = passed.count in omega (arith, lt, count, n)) in record {
            same = told_same view laws tasks (solution tasks) ins outs machines fault (logs_in passes) (logged_all tasks κ) many cell events (passes ++ rest ∷ [])
                (slice_index_or passes k rest) h k kind alone (pass_of_list passes rest rest k here) all (log_there k here);
            behind_grants = told_behind view laws tasks (solution tasks) ins outs machines fault (logs_in passes)
                (logged_all tasks κ) many events found k kind lt alone (rise k);
          });
          own = λ tasks κ k s p lt only at. its_grants view laws tasks (solution tasks) ins outs machines fault (logs_in passes)
              (logged_all tasks κ) many events found k s p only at;
        }
      where
        all : all_in (logs_of (passes ++ rest ∷ [])) ≡ all_in (logs_in passes)
        all = all_but_last passes rest (ap (λ (p : Passing). p.log) seated.rest)

        log_there : (k : ℕ) → k < length passes → (slice_index_or passes k rest).log ≡ slice_index_or (logs_in passes) k []
        log_there k lt = sym (log_here passes rest k lt)

        no_entry : (i : ℕ) (x : Logged) → slice_get [] i ≡ Some x → ⊥
        no_entry zero x e = cc (e)
        no_entry (suc i) x e = cc (e)

pub some_weaker : {A : Type 0} (o : Option A) (P Q : A → Type 0) → ((x : A) → P x → Q x) → IfSome o P → IfSome o Q
some_weaker None P Q f h = h
some_weaker (Some x) P Q f h = f x h
