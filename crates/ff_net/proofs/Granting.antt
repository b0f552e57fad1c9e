-- How a source is granted what it may read, and a machine is asked what it has to tell.
use Rattle.std.proofs.Common.{◌≡◌, ℕ, List, ◌<◌, ◌≤◌, ◌+◌, ◌⊎◌, inl, inr, Bool, true, false, ◌||◌, ◌++◌, ◌∷◌, [], length, refl, ap, sym, ◌∙◌, subst, arith, length-append, append_assoc, Option, None, Some, IsSome}
use Rattle.ff_frame.specs.declared.event.Event.TheVariants.{Grant}
use Rattle.ff_sched.specs.Histories.{logged}
use Rattle.ff_sched.specs.laws.Passing.{Passing, Scheduler, Told}
use Rattle.ff_frame.specs.declared.event.Event.{Event}
use Rattle.ff_net.specs.declared.fault.Fault.{Fault}
use Rattle.ff_net.specs.declared.node.Node.{Node}
use Rattle.ff_net.specs.declared.wires.Wires.{Wires}
use Rattle.ff_net.specs.laws.Laws.{FaultStep, IsReading}
use Rattle.ff_net.specs.laws.Logs.{PassStep, ticket_of, tickets_in}
use Rattle.ff_sched.specs.declared.logged.Logged.{Logged}
use Rattle.ff_net.specs.laws.Nodes.{IsOf, IsSound, LogStands, NodeStands}
use Rattle.ff_net.specs.Pasts.{Past}
use Rattle.ff_net.specs.laws.Ports.{AreDone, NoneHeld, in_wires, out_wires}
use Rattle.ff_net.specs.laws.Steps.{Grants, Stepped, Tells}
use Rattle.ff_net.specs.laws.Views.{View}
use Rattle.ff_net.specs.laws.Worlds.{Wire}
use Rattle.ff_net.proofs.Changes.{machine_step, true_not_false}
use Rattle.ff_net.proofs.Idling.{find_busy}
use Rattle.ff_net.proofs.Logs.{tickets_more, log_still, log_granted}
use Rattle.ff_net.proofs.Moments.{fault_self, course_self, has_moved_then, then_has_moved, prefix_length, pass_self, stepped_then}
use Rattle.ff_net.proofs.Readying.{pending_here}
use Rattle.ff_net.proofs.Rounds.{or_true, or_false}

pub sound_or : {M : Type 0} (view : M → View) (node : Node M) → IsSound view node ⊎ (IsSound view node → ⊥)
sound_or view node = pick node.refused refl (view node.machine).fault refl
  where
    pick : (b : Bool) → node.refused ≡ b → (f : Option Fault) → (view node.machine).fault ≡ f → IsSound view node ⊎ (IsSound view node → ⊥)
    pick true r f e = inr (λ s. true_not_false (sym r ∙ s.0))
    pick false r None e = inl (r, e)
    pick false r (Some c) e = inr (λ s. let no : Some c ≡ None = sym e ∙ s.1 in cc (no))

module _ {M : Type 0} (view : M → View) where
  -- a node stays one of its cell
  pub of_later : (how : (ℕ → Wire) → Past → (ℕ → Wire) → Past → Type 0) (cell : Scheduler) (node : Node M) (wires : Wires) (node' : Node M) (wires' : Wires) → Stepped view how node wires node' wires' → IsOf view cell node → IsOf view cell node'
  of_later how cell node wires node' wires' s o = record { pass = s.passes.cell ∙ o.pass; source = λ n e. o.source n (sym s.source_same ∙ e) }

  -- a source of which an output goes on that holds nothing is reading
  pub reading_here : (node : Node M) (world : ℕ → Wire) (past : Past) (s : ℕ) → NodeStands view node world past → IsSound view node → length node.outs.items ≡ length (view node.machine).out_lanes → NoneHeld node.outs.items → (AreDone node.outs.items → ⊥) → (view node.machine).source ≡ Some s → IsReading (view node.machine) past
  reading_here node world past s was ok count none busy source =
      elim (find_busy node.outs.items) [
        | inl all ↦ absurd (busy all)
        | inr b ↦ record { is_source = subst (λ (o : Option ℕ). IsSome o) (sym source) refl; sound = ok.1; port = b.0; pending = pending_here view node world past was count none b.0 b.1 b.2 }
      ]

  -- a grant was taken, or none
  pub grants_taken : (took : Bool) (s : ℕ) (node node' : Node M) → IsSound view node → length node.outs.items ≡ length (view node.machine).out_lanes → NoneHeld node.outs.items → (AreDone node.outs.items → ⊥) → (view node.machine).source ≡ Some s
      → node'.machine ≡ node.machine → node'.ins ≡ node.ins → node'.outs ≡ node.outs → (node'.refused ≡ false → node.refused ≡ false) → node'.quiet ≡ node.quiet → PassStep node.pass node'.pass
      → (took ≡ true → (node.hand ≡ None) × ((place : ℕ) × (node'.hand ≡ Some (record { source = s; place = place })) × (node'.pass.log ≡ node.pass.log ++ logged place (Grant s) ∷ [])))
      → (took ≡ false → (node'.hand ≡ node.hand) × (node'.pass.log ≡ node.pass.log))
      → (wires : Wires) → Stepped view (Grants took node node') node wires node' wires
  grants_taken took s node node' ok count none busy source machine ins outs refused quiet passes granted still wires = record {
    ins_same = ap (λ ports. in_wires ports.items) ins;
    outs_same = ap (λ ports. out_wires ports.items) outs;
    in_lanes_same = ap (λ m. (view m).in_lanes) machine;
    out_lanes_same = ap (λ m. (view m).out_lanes) machine;
    source_same = ap (λ m. (view m).source) machine;
    lanes_same = refl;
    fares = subst (λ m. FaultStep (view node.machine) (view m)) (sym machine) (fault_self (view node.machine));
    passes = passes;
    goes = λ world past stand was. record {
      now = world;
      since = past;
      stand = stand;
      fits = machine_step view node node' world past past was (subst (λ m. (view m).stands past) (sym machine) was.machine) (λ k. (refused k.0, ap (λ m. (view m).fault) (sym machine) ∙ k.1)) refused (ap (λ ports. ports.items) ins) (ap (λ ports. ports.items) outs) (ap (λ m. (view m).in_lanes) machine) refl refl refl refl
          (log took refl past (reading_here node world past s was ok count none busy source) was.log);
      course = course_self _ _ world past;
      so = record {
        moves = λ e. inr (longer e);
        sent = λ w. refl;
        taken = λ w. refl;
        finished = λ w. refl;
        got = refl;
        stopped = refl;
        same = λ e. refl;
      };
    };
  }
    where
      log : (t : Bool) → took ≡ t → (past : Past) → IsReading (view node.machine) past → LogStands view node past → LogStands view node' past
      log true e past reading l = let y = granted e in log_granted view node node' past s y.1.0 source machine y.1.2 y.0 y.1.1 refused (λ q. sym quiet ∙ q) reading l
      log false e past reading l = let n = still e in log_still view node node' past machine n.1 n.0 refused (λ q. sym quiet ∙ q) l

      longer : took ≡ true → length node.pass.log < length node'.pass.log
      longer e =
          let y = granted e in
          let place : ℕ = y.1.0 in
          let n : length node'.pass.log ≡ length (node.pass.log ++ logged place (Grant s) ∷ []) = ap length y.1.2 in
          let m = length-append node.pass.log (logged place (Grant s) ∷ []) in omega (arith, n, m)

  -- one after the other
  pub grants_join : (took offered : Bool) (node mid last : Node M) (wires : Wires) → Stepped view (Grants took node mid) node wires mid wires → Stepped view (Grants offered mid last) mid wires last wires → Stepped view (Grants (took || offered) node last) node wires last wires
  grants_join took offered node mid last wires a b =
      stepped_then view (Grants took node mid) (Grants offered mid last) (Grants (took || offered) node last) node wires mid wires last wires
      (λ w p v q u r x y f s. record {
        moves = λ e. elim (or_true took offered e) [
          | inl m ↦ has_moved_then _ _ node mid last w v u p q r x y b.passes.log (f.moves m)
          | inr m ↦ then_has_moved _ _ node mid last w v u p q r x y a.passes.log (s.moves m)
        ];
        sent = λ k. s.sent k ∙ f.sent k;
        taken = λ k. s.taken k ∙ f.taken k;
        finished = λ k. s.finished k ∙ f.finished k;
        got = s.got ∙ f.got;
        stopped = s.stopped ∙ f.stopped;
        same = λ e. let n = or_false took offered e in s.same n.1 ∙ f.same n.0;
      }) a b

-- a pass in which only the room changed has gone on
pub pass_roomier : (p q : Passing) → q ≡ record p { spare = q.spare } → PassStep p q
pass_roomier p q e = subst (λ (z : Passing). PassStep p z) (sym e) (record { cell = refl; share = refl; seen = (pass_self p).seen; log = (pass_self p).log })

-- room was made for one event more, or none was there
pub roomier_steps : {M : Type 0} (view : M → View) (node mid : Node M) → mid ≡ record node { pass = mid.pass; refused = mid.refused } → mid.pass ≡ record node.pass { spare = mid.pass.spare } → (mid.refused ≡ false → node.refused ≡ false) → (wires : Wires) → Stepped view Tells node wires mid wires
roomier_steps view node mid same pass refused wires =
    let machine : mid.machine ≡ node.machine = ap (λ n. n.machine) same in record {
      ins_same = ap (λ n. in_wires n.ins.items) same;
      outs_same = ap (λ n. out_wires n.outs.items) same;
      in_lanes_same = ap (λ m. (view m).in_lanes) machine;
      out_lanes_same = ap (λ m. (view m).out_lanes) machine;
      source_same = ap (λ m. (view m).source) machine;
      lanes_same = refl;
      fares = subst (λ m. FaultStep (view node.machine) (view m)) (sym machine) (fault_self (view node.machine));
      passes = pass_roomier node.pass mid.pass pass;
      goes = λ world past stand was. record {
        now = world;
        since = past;
        stand = stand;
        fits = machine_step view node mid world past past was (subst (λ m. (view m).stands past) (sym machine) was.machine) (λ k. (refused k.0, ap (λ m. (view m).fault) (sym machine) ∙ k.1)) refused (ap (λ n. n.ins.items) same) (ap (λ n. n.outs.items) same) (ap (λ m. (view m).in_lanes) machine) refl refl refl refl
            (log_still view node mid past machine (ap (λ (p : Passing). p.log) pass) (ap (λ n. n.hand) same) refused (λ q. sym (ap (λ n. n.quiet) same) ∙ q) was.log);
        course = course_self _ _ world past;
        so = record { sent = λ w. refl; taken = λ w. refl; finished = λ w. refl; got = refl; allowed = refl; stopped = refl };
      };
    }

-- an event was told
pub pass_told : (p : Passing) (e : Event) (place : ℕ) (q : Passing) → Told p e place q → PassStep p q
pass_told p e place q t = record {
  cell = ap (λ (r : Passing). r.cell) t.same;
  share = ap (λ (r : Passing). r.share) t.same;
  seen = (t.between ++ e ∷ [], t.seen ∙ append_assoc p.seen t.between (e ∷ []));
  log = (logged place e ∷ [], sym (ap (λ (r : Passing). r.log) t.same));
}

pub tells_join : {M : Type 0} (view : M → View) (node mid last : Node M) (wires : Wires) → Stepped view Tells node wires mid wires → Stepped view Tells mid wires last wires → Stepped view Tells node wires last wires
tells_join view node mid last wires a b = stepped_then view Tells Tells Tells node wires mid wires last wires
    (λ w p v q u r x y f s. record {
      sent = λ k. s.sent k ∙ f.sent k;
      taken = λ k. s.taken k ∙ f.taken k;
      finished = λ k. s.finished k ∙ f.finished k;
      got = s.got ∙ f.got;
      allowed = s.allowed ∙ f.allowed;
      stopped = s.stopped ∙ f.stopped;
    }) a b

-- logs that grow or stay, one after the other
pub longer_join : (a b : Bool) (p q r : Passing) → (a ≡ true → length p.log < length q.log) → (a ≡ false → q ≡ record p { spare = q.spare }) → PassStep q r → (b ≡ true → length q.log < length r.log) → (a || b) ≡ true → length p.log < length r.log
longer_join true b p q r x s step y e = let l = x refl in let n = prefix_length q.log r.log step.log in omega (arith, l, n)
longer_join false b p q r x s step y e = let l = y e in let same : length q.log ≡ length p.log = ap (λ (z : Passing). length z.log) (s refl) in omega (arith, l, same)

pub still_join : (a b : Bool) (p q r : Passing) → (a ≡ false → q ≡ record p { spare = q.spare }) → (b ≡ false → r ≡ record q { spare = r.spare }) → (a || b) ≡ false → r ≡ record p { spare = r.spare }
still_join a b p q r x y e = let n = or_false a b e in y n.1 ∙ ap (λ (z : Passing). record z { spare = r.spare }) (x n.0)

-- a log has at most one ticket more
abbrev pub IsOneMore : List Logged → List Logged → Type 0
IsOneMore ls ms = length (tickets_in ms) ≤ length (tickets_in ls) + 1

pub granted_once : (took : Bool) (s : ℕ) (ls ms : List Logged) → (took ≡ true → (place : ℕ) × (ms ≡ ls ++ logged place (Grant s) ∷ [])) → (took ≡ false → ms ≡ ls) → IsOneMore ls ms
granted_once true s ls ms granted still =
    let g = granted refl in
    let n : length (tickets_in ms) ≡ length (tickets_in ls ++ ticket_of (Grant s) g.0) = ap length (ap tickets_in g.1 ∙ tickets_more ls (logged g.0 (Grant s))) in
    let m = length-append (tickets_in ls) (ticket_of (Grant s) g.0) in omega (arith, n, m)
granted_once false s ls ms granted still = let n : length (tickets_in ms) ≡ length (tickets_in ls) = ap (λ (l : List Logged). length (tickets_in l)) (still refl) in omega (arith, n)

-- and stays so where the tickets before it or behind it stay
pub once_between : (ks ls ms ns : List Logged) → tickets_in ls ≡ tickets_in ks → tickets_in ns ≡ tickets_in ms → IsOneMore ls ms → IsOneMore ks ns
once_between ks ls ms ns before after once =
    let n : length (tickets_in ls) ≡ length (tickets_in ks) = ap length before in
    let m : length (tickets_in ns) ≡ length (tickets_in ms) = ap length after in omega (arith, n, m, once)

pub once_same : (ks ls : List Logged) → tickets_in ls ≡ tickets_in ks → IsOneMore ks ls
once_same ks ls same = let n : length (tickets_in ls) ≡ length (tickets_in ks) = ap length same in omega (arith, n)

pub same_tickets : (p q : Passing) → q ≡ p → tickets_in q.log ≡ tickets_in p.log
same_tickets p q e = ap (λ (r : Passing). tickets_in r.log) e
