-- From moment to moment.
use Rattle.std.proofs.Common.{◌≡◌, ◌≢◌, ℕ, ◌==◌, inl, inr, Bool, true, false, if◌then◌else◌, ◌≤◌, List, [], ◌∷◌, ◌++◌, length, append-nil, append_assoc, length-append, refl, ap, sym, ◌∙◌, subst, arith, Option, None, Some}
use Rattle.std.proofs.lemmas.Bool.Decides.{nat_tests}
use mathlib.Core.List.{IsPrefix}
use Rattle.ff_stream.specs.declared.item.Item.{Item}
use Rattle.ff_stream.specs.declared.item.Item.TheVariants.{Audio, Video, Packet, Trailer, End, Broken}
use Rattle.ff_frame.specs.declared.event.Ticket.{Ticket}
use Rattle.ff_stream.specs.Stream.{still_open, whole, broken, LiesBelow}
use Rattle.ff_stream.specs.Items.{with_item}
use Rattle.ff_stream.specs.laws.Order.{below_self, below_both, below_trans, prefix_self, prefix_trans, prefix_both}
use Rattle.ff_net.specs.declared.fault.Fault.{Fault}
use Rattle.ff_net.specs.declared.fault.Fault.TheVariants.{Device}
use Rattle.ff_net.specs.declared.node.Node.{Node}
use Rattle.ff_net.specs.declared.wires.Wires.{Wires}
use Rattle.ff_net.specs.Ways.{Flow}
use Rattle.ff_net.specs.laws.Laws.{Rose, FaultStep}
use Rattle.ff_net.specs.Pasts.{Past}
use Rattle.ff_net.specs.laws.Worlds.{Wire, with_wire}
use Rattle.ff_net.specs.laws.Nodes.{NodeStands, in_wires_of, out_wires_of}
use Rattle.ff_net.specs.laws.Logs.{PassStep}
use Rattle.ff_sched.specs.declared.logged.Logged.{Logged}
use Rattle.ff_sched.specs.laws.Passing.{Passing}
use Rattle.ff_frame.specs.declared.event.Event.{Event}
use Rattle.ff_net.specs.laws.Steps.{Course, HasMoved, Moves, took, put, finished, granted, told, Stepped}
use Rattle.ff_net.specs.laws.Views.{View}
use Rattle.ff_net.proofs.Flows.{same_or_not}

pub with_wire_same : (world : ℕ → Wire) (w : ℕ) (wire : Wire) (v : ℕ) → v ≡ w → with_wire world w wire v ≡ wire
with_wire_same world w wire v e = pick (v == w) refl
  where
    pick : (b : Bool) → (v == w) ≡ b → (if b then wire else world v) ≡ wire
    pick true t = refl
    pick false t = let other : v ≢ w = grind (arith, nat_tests) in absurd (other e)

pub with_wire_other : (world : ℕ → Wire) (w : ℕ) (wire : Wire) (v : ℕ) → v ≢ w → with_wire world w wire v ≡ world v
with_wire_other world w wire v n = pick (v == w) refl
  where
    pick : (b : Bool) → (v == w) ≡ b → (if b then wire else world v) ≡ world v
    pick true t = let same : v ≡ w = grind (arith, nat_tests) in absurd (n same)
    pick false t = refl

-- what a wire keeps that is set to one with the same
pub with_wire_keeps : {A : Type 0} (f : Wire → A) (world : ℕ → Wire) (w : ℕ) (wire : Wire) (v : ℕ) → f wire ≡ f (world w) → f (with_wire world w wire v) ≡ f (world v)
with_wire_keeps f world w wire v e =
    elim (same_or_not v w) [
      | inl same ↦ ap f (with_wire_same world w wire v same) ∙ (e ∙ ap (λ (u : ℕ). f (world u)) (sym same))
      | inr other ↦ ap f (with_wire_other world w wire v other)
    ]

-- what holds of the wire that is set, and stays of each other, holds of all
pub with_wire_each : (P : Wire → Wire → Type 0) (world : ℕ → Wire) (w : ℕ) (wire : Wire) → P (world w) wire → ((u : Wire) → P u u) → (v : ℕ) → P (world v) (with_wire world w wire v)
with_wire_each P world w wire here others v =
    elim (same_or_not v w) [
      | inl e ↦ subst (λ (u : Wire). P (world v) u) (sym (with_wire_same world w wire v e)) (subst (λ (u : ℕ). P (world u) wire) (sym e) here)
      | inr n ↦ subst (λ (u : Wire). P (world v) u) (sym (with_wire_other world w wire v n)) (others (world v))
    ]

pub course_self : (ins outs : List ℕ) (world : ℕ → Wire) (past : Past) → Course ins outs world world past past
course_self ins outs world past = record {
  sent = λ w n. refl;
  taken = λ w n. refl;
  finished = λ w n. refl;
  sent_grows = λ w. below_self (world w).sent;
  taken_grows = λ w. below_self (world w).taken;
  stays_finished = λ w f. f;
  stays_taken = λ w f. refl;
  task = refl;
  allowed = prefix_self past.allowed;
  stopped = λ q i. i;
}

pub course_trans : (ins outs : List ℕ) (a b c : ℕ → Wire) (p q r : Past) → Course ins outs a b p q → Course ins outs b c q r → Course ins outs a c p r
course_trans ins outs a b c p q r x y = record {
  sent = λ w n. y.sent w n ∙ x.sent w n;
  taken = λ w n. y.taken w n ∙ x.taken w n;
  finished = λ w n. y.finished w n ∙ x.finished w n;
  sent_grows = λ w. below_trans (a w).sent (b w).sent (c w).sent (x.sent_grows w) (y.sent_grows w);
  taken_grows = λ w. below_trans (a w).taken (b w).taken (c w).taken (x.taken_grows w) (y.taken_grows w);
  stays_finished = λ w f. y.stays_finished w (x.stays_finished w f);
  stays_taken = λ w f. y.stays_taken w (x.stays_finished w f) ∙ x.stays_taken w f;
  task = y.task ∙ x.task;
  allowed = prefix_trans p.allowed q.allowed r.allowed x.allowed y.allowed;
  stopped = λ s i. y.stopped s (x.stopped s i);
}

-- between two equal streams, one that lies above the first and below the second is equal to them
between : (r s t : Flow) → LiesBelow r s → LiesBelow s t → t ≡ r → s ≡ r
between r s t p q e = below_both s r (subst (λ (x : Flow). LiesBelow s x) e q) p

not_false : true ≡ false → ⊥
not_false e = cc

false_before : (b c : Bool) → (b ≡ true → c ≡ true) → c ≡ false → b ≡ false
false_before true c h e = absurd (not_false (sym (h refl) ∙ e))
false_before false c h e = refl

-- what moved before has moved
pub moves_then : (ins outs : List ℕ) (a b c : ℕ → Wire) (p q r : Past) → Course ins outs a b p q → Course ins outs b c q r → Moves a b p q → Moves a c p r
moves_then ins outs a b c p q r x y (took w n) = took w (λ e. n (between (a w).taken (b w).taken (c w).taken (x.taken_grows w) (y.taken_grows w) e))
moves_then ins outs a b c p q r x y (put w n) = put w (λ e. n (between (a w).sent (b w).sent (c w).sent (x.sent_grows w) (y.sent_grows w) e))
moves_then ins outs a b c p q r x y (finished w f t) = finished w f (y.stays_finished w t)
moves_then ins outs a b c p q r x y (granted n) = granted (λ e. n (prefix_both q.allowed p.allowed (subst (λ (ts : List Ticket). IsPrefix q.allowed ts) e y.allowed) x.allowed))
moves_then ins outs a b c p q r x y (told s n i) = told s n (y.stopped s i)

pub then_moves : (ins outs : List ℕ) (a b c : ℕ → Wire) (p q r : Past) → Course ins outs a b p q → Course ins outs b c q r → Moves b c q r → Moves a c p r
then_moves ins outs a b c p q r x y (took w n) = took w (λ e. n (e ∙ sym (between (a w).taken (b w).taken (c w).taken (x.taken_grows w) (y.taken_grows w) e)))
then_moves ins outs a b c p q r x y (put w n) = put w (λ e. n (e ∙ sym (between (a w).sent (b w).sent (c w).sent (x.sent_grows w) (y.sent_grows w) e)))
then_moves ins outs a b c p q r x y (finished w f t) = finished w (false_before (a w).finished (b w).finished (x.stays_finished w) f) t
then_moves ins outs a b c p q r x y (granted n) =
    granted (λ e. n (e ∙ sym (prefix_both q.allowed p.allowed (subst (λ (ts : List Ticket). IsPrefix q.allowed ts) e y.allowed) x.allowed)))
then_moves ins outs a b c p q r x y (told s n i) = told s (λ j. n (x.stopped s j)) i

pub pass_self : (p : Passing) → PassStep p p
pass_self p = record { cell = refl; share = refl; seen = ([], sym (append-nil p.seen)); log = prefix_self p.log }

pub pass_then : (a b c : Passing) → PassStep a b → PassStep b c → PassStep a c
pass_then a b c x y = record {
  cell = y.cell ∙ x.cell;
  share = y.share ∙ x.share;
  seen = (x.seen.0 ++ y.seen.0, y.seen.1 ∙ (ap (λ (es : List Event). es ++ y.seen.0) x.seen.1 ∙ append_assoc a.seen x.seen.0 y.seen.0));
  log = prefix_trans a.log b.log c.log x.log y.log;
}

-- a longer log
pub prefix_length : (xs ys : List Logged) → IsPrefix xs ys → length xs ≤ length ys
prefix_length xs ys f = let e : length (xs ++ f.0) ≡ length ys = ap length f.1 in let n = length-append xs f.0 in omega (arith, e, n)

-- what moved or was logged before has moved or is logged
pub has_moved_then : {M : Type 0} (ins outs : List ℕ) (node node' node'' : Node M) (a b c : ℕ → Wire) (p q r : Past) → Course ins outs a b p q → Course ins outs b c q r → IsPrefix node'.pass.log node''.pass.log → HasMoved node node' a p b q → HasMoved node node'' a p c r
has_moved_then ins outs node node' node'' a b c p q r x y log (inl m) = inl (moves_then ins outs a b c p q r x y m)
has_moved_then ins outs node node' node'' a b c p q r x y log (inr l) = let n = prefix_length node'.pass.log node''.pass.log log in inr (omega (arith, l, n))

pub then_has_moved : {M : Type 0} (ins outs : List ℕ) (node node' node'' : Node M) (a b c : ℕ → Wire) (p q r : Past) → Course ins outs a b p q → Course ins outs b c q r → IsPrefix node.pass.log node'.pass.log → HasMoved node' node'' b q c r → HasMoved node node'' a p c r
then_has_moved ins outs node node' node'' a b c p q r x y log (inl m) = inl (then_moves ins outs a b c p q r x y m)
then_has_moved ins outs node node' node'' a b c p q r x y log (inr l) = let n = prefix_length node.pass.log node'.pass.log log in inr (omega (arith, l, n))

longer_tickets : (ts : List Ticket) (t : Ticket) → ts ++ t ∷ [] ≢ ts
longer_tickets [] t e = cc
longer_tickets (u ∷ ts) t e = longer_tickets ts t (cc (e))

pub pushed_tickets : (ts : List Ticket) (t : Ticket) → ts ++ t ∷ [] ≢ ts
pushed_tickets = longer_tickets

longer : (xs : List Item) (x : Item) → xs ++ x ∷ [] ≢ xs
longer [] x e = cc
longer (y ∷ xs) x e = longer xs x (cc (e))

-- an item changes an open stream
pub with_item_new : (s : Flow) (x : Item) → s.mark ≡ still_open → with_item s x ≢ s
with_item_new s (Audio f) o e = longer s.items (Audio f) (ap (λ (t : Flow). t.items) e)
with_item_new s (Video f) o e = longer s.items (Video f) (ap (λ (t : Flow). t.items) e)
with_item_new s (Packet p) o e = longer s.items (Packet p) (ap (λ (t : Flow). t.items) e)
with_item_new s (Trailer x) o e = longer s.items (Trailer x) (ap (λ (t : Flow). t.items) e)
with_item_new s End o e = let m : whole ≡ s.mark = ap (λ (t : Flow). t.mark) e in cc
with_item_new s Broken o e = let m : broken ≡ s.mark = ap (λ (t : Flow). t.mark) e in cc

pub fault_self : (v : View) → FaultStep v v
fault_self v = record { device_same = refl; later = omega arith; stays = λ c e. e; failed = λ n e. absurd (let no = sym n ∙ e in cc (no)); unfailed = λ n. refl; behind = λ c e. refl }

pub fault_then : (a b c : View) → FaultStep a b → FaultStep b c → FaultStep a c
fault_then a b c r s = record {
  device_same = s.device_same ∙ r.device_same;
  later = omega (arith, r.later, s.later);
  stays = λ k e. s.stays k (r.stays k e);
  failed = rose b.fault refl;
  unfailed = λ n. s.unfailed n ∙ r.unfailed (λ e. n (s.stays Device e));
  behind = λ k e. s.behind k (r.stays k e) ∙ r.behind k e;
}
  where
    rose : (f : Option Fault) → b.fault ≡ f → a.fault ≡ None → c.fault ≡ Some Device → Rose a.failures c.failures
    rose None e n d = let up = s.failed e d in omega (arith, up, r.later)
    rose (Some k) e n d =
        let same : Some k ≡ Some Device = sym (s.stays k e) ∙ d in
        let up = r.failed n (e ∙ same) in omega (arith, up, s.later)

module _ {M : Type 0} (view : M → View) where
  -- one step after the other
  pub stepped_then : (how how' how'' : (ℕ → Wire) → Past → (ℕ → Wire) → Past → Type 0) (node : Node M) (wires : Wires) (node' : Node M) (wires' : Wires) (node'' : Node M) (wires'' : Wires)
      → ((a : ℕ → Wire) (p : Past) (b : ℕ → Wire) (q : Past) (c : ℕ → Wire) (r : Past) → Course (in_wires_of node) (out_wires_of node) a b p q → Course (in_wires_of node) (out_wires_of node) b c q r → how a p b q → how' b q c r → how'' a p c r)
      → Stepped view how node wires node' wires' → Stepped view how' node' wires' node'' wires'' → Stepped view how'' node wires node'' wires''
  stepped_then how how' how'' node wires node' wires' node'' wires'' join a b = record {
    ins_same = b.ins_same ∙ a.ins_same;
    outs_same = b.outs_same ∙ a.outs_same;
    in_lanes_same = b.in_lanes_same ∙ a.in_lanes_same;
    out_lanes_same = b.out_lanes_same ∙ a.out_lanes_same;
    source_same = b.source_same ∙ a.source_same;
    fares = fault_then _ _ _ a.fares b.fares;
    passes = pass_then _ _ _ a.passes b.passes;
    lanes_same = b.lanes_same ∙ a.lanes_same;
    goes = λ world past stand was.
        let x = a.goes world past stand was in
        let y = b.goes x.now x.since x.stand x.fits in
        let f : Course (in_wires_of node) (out_wires_of node) x.now y.now x.since y.since = subst (λ (os : List ℕ). Course (in_wires_of node) os x.now y.now x.since y.since) a.outs_same (subst (λ (is : List ℕ). Course is (out_wires_of node') x.now y.now x.since y.since) a.ins_same y.course) in record {
          now = y.now;
          since = y.since;
          stand = y.stand;
          fits = y.fits;
          course = course_trans (in_wires_of node) (out_wires_of node) world x.now y.now past x.since y.since x.course f;
          so = join world past x.now x.since y.now y.since x.course f x.so y.so;
        };
  }

  -- what follows from how it steps
  pub stepped_as : (how how' : (ℕ → Wire) → Past → (ℕ → Wire) → Past → Type 0) (node : Node M) (wires : Wires) (node' : Node M) (wires' : Wires) → ((a : ℕ → Wire) (p : Past) (b : ℕ → Wire) (q : Past) → Course (in_wires_of node) (out_wires_of node) a b p q → how a p b q → how' a p b q)
      → Stepped view how node wires node' wires' → Stepped view how' node wires node' wires'
  stepped_as how how' node wires node' wires' f s = record {
    ins_same = s.ins_same;
    outs_same = s.outs_same;
    in_lanes_same = s.in_lanes_same;
    out_lanes_same = s.out_lanes_same;
    source_same = s.source_same;
    fares = s.fares;
    passes = s.passes;
    lanes_same = s.lanes_same;
    goes = λ world past stand was.
        let x = s.goes world past stand was in
        record { now = x.now; since = x.since; stand = x.stand; fits = x.fits; course = x.course; so = f world past x.now x.since x.course x.so };
  }

  -- the same, where it depends on what is behind the node then
  pub stepped_with : (how how' : (ℕ → Wire) → Past → (ℕ → Wire) → Past → Type 0) (node : Node M) (wires : Wires) (node' : Node M) (wires' : Wires) → ((a : ℕ → Wire) (p : Past) (b : ℕ → Wire) (q : Past) → NodeStands view node' b q → how a p b q → how' a p b q)
      → Stepped view how node wires node' wires' → Stepped view how' node wires node' wires'
  stepped_with how how' node wires node' wires' f s = record {
    ins_same = s.ins_same;
    outs_same = s.outs_same;
    in_lanes_same = s.in_lanes_same;
    out_lanes_same = s.out_lanes_same;
    source_same = s.source_same;
    fares = s.fares;
    passes = s.passes;
    lanes_same = s.lanes_same;
    goes = λ world past stand was.
        let x = s.goes world past stand was in
        record { now = x.now; since = x.since; stand = x.stand; fits = x.fits; course = x.course; so = f world past x.now x.since x.fits x.so };
  }

  -- the same, where what holds between depends on what is behind the node there
  pub stepped_through : (how how' how'' : (ℕ → Wire) → Past → (ℕ → Wire) → Past → Type 0) (node : Node M) (wires : Wires) (node' : Node M) (wires' : Wires) (node'' : Node M) (wires'' : Wires)
      → ((a : ℕ → Wire) (p : Past) (b : ℕ → Wire) (q : Past) (c : ℕ → Wire) (r : Past) → NodeStands view node a p → NodeStands view node' b q → Course (in_wires_of node) (out_wires_of node) a b p q → Course (in_wires_of node) (out_wires_of node) b c q r → how a p b q → how' b q c r → how'' a p c r)
      → Stepped view how node wires node' wires' → Stepped view how' node' wires' node'' wires'' → Stepped view how'' node wires node'' wires''
  stepped_through how how' how'' node wires node' wires' node'' wires'' join a b = record {
    ins_same = b.ins_same ∙ a.ins_same;
    outs_same = b.outs_same ∙ a.outs_same;
    in_lanes_same = b.in_lanes_same ∙ a.in_lanes_same;
    out_lanes_same = b.out_lanes_same ∙ a.out_lanes_same;
    source_same = b.source_same ∙ a.source_same;
    fares = fault_then _ _ _ a.fares b.fares;
    passes = pass_then _ _ _ a.passes b.passes;
    lanes_same = b.lanes_same ∙ a.lanes_same;
    goes = λ world past stand was.
        let x = a.goes world past stand was in
        let y = b.goes x.now x.since x.stand x.fits in
        let f : Course (in_wires_of node) (out_wires_of node) x.now y.now x.since y.since = subst (λ (os : List ℕ). Course (in_wires_of node) os x.now y.now x.since y.since) a.outs_same (subst (λ (is : List ℕ). Course is (out_wires_of node') x.now y.now x.since y.since) a.ins_same y.course) in record {
          now = y.now;
          since = y.since;
          stand = y.stand;
          fits = y.fits;
          course = course_trans (in_wires_of node) (out_wires_of node) world x.now y.now past x.since y.since x.course f;
          so = join world past x.now x.since y.now y.since was x.fits x.course f x.so y.so;
        };
  }

  pub stepped_self : (how : (ℕ → Wire) → Past → (ℕ → Wire) → Past → Type 0) (node : Node M) (wires : Wires) → ((w : ℕ → Wire) (p : Past) → how w p w p) → Stepped view how node wires node wires
  stepped_self how node wires h = record {
    ins_same = refl;
    outs_same = refl;
    in_lanes_same = refl;
    out_lanes_same = refl;
    source_same = refl;
    fares = fault_self (view node.machine);
    passes = pass_self node.pass;
    lanes_same = refl;
    goes = λ world past stand was. record { now = world; since = past; stand = stand; fits = was; course = course_self (in_wires_of node) (out_wires_of node) world past; so = h world past };
  }
