-- From nodes on wires to the theorem on the network.
use Rattle.std.proofs.Common.{◌≡◌, ℕ, zero, suc, ◌<◌, ◌≤◌, ◌⊎◌, inl, inr, Bool, true, false, ◌||◌, List, [], ◌∷◌, map, length, slice_index_or, refl, ap, sym, ◌∙◌, subst, arith, Option, None, Some, is_some}
use Rattle.ff_stream.specs.declared.item.Lane.{Lane}
use Rattle.ff_stream.specs.Stream.{LiesBelow, opened}
use Rattle.ff_stream.specs.laws.Order.{below_self, below_trans, nothing_below, unbroken_below, closed_below, whole_if_closed, all_trans, stream_at-opened, with_item_above}
use Rattle.ff_stream.specs.Ports.{nothing, stream_at, AllBelow, AllUnbroken, IsCalm, IsClosed, IsMonotone, IsWhole, IsUnbroken}
use Rattle.ff_net.specs.declared.fault.Fault.{Fault}
use Rattle.ff_net.specs.declared.ports.InPort.{InPort}
use Rattle.ff_net.specs.declared.ports.OutPort.{OutPort}
use Rattle.ff_net.specs.declared.node.Node.{Node}
use Rattle.ff_net.specs.declared.wires.Wires.{Wires}
use Rattle.ff_net.specs.Ways.{Flow, lane_at, IsValidOn, AreValid}
use Rattle.ff_net.specs.Pasts.{Past, Task, IsIn}
use Rattle.ff_net.specs.laws.Laws.{Laws}
use Rattle.ff_net.specs.laws.Ports.{in_at, out_at, in_wires, out_wires}
use Rattle.ff_net.specs.laws.Worlds.{Wire, lanes_of}
use Rattle.ff_net.specs.laws.Nodes.{FedAllButOne, NodeStands, IsSound, IsDone, HaveLanes, in_wires_of, out_wires_of}
use Rattle.ff_net.specs.Nets.{Part, IsUpward, solve}
use Rattle.ff_net.specs.laws.Serial.{AreShaped, NetStands, Moment, part_of, parts_of}
use Rattle.ff_net.specs.laws.Theorem.{Settled}
use Rattle.ff_net.specs.laws.Views.{View}
use Rattle.ff_net.proofs.Flows.{given_below, valid_on_below}
use Rattle.ff_net.proofs.PortSteps.{in_wire_in}
use Rattle.ff_net.proofs.Changes.{true_not_false}
use Rattle.ff_net.proofs.Induction.{Placed, parts, IsInputOf, got_of, gave_of, IsLawful, AreLawful, AreFaultless, IsNet, map_valid, opened_solve, exact_solve, sent_unbroken}

-- the streams on a node's wires, port by port
all_out : (outs : List OutPort) (f : ℕ → Flow) (ss : List Flow) → ((p : ℕ) → p < length outs → LiesBelow (f (out_at outs p).wire) (stream_at ss p)) → AllBelow (map f (out_wires outs)) ss
all_out [] f ss h p = nothing_below (stream_at ss p)
all_out (o ∷ os) f ss h zero = h zero (omega arith)
all_out (o ∷ os) f [] h (suc p) = all_out os f [] (λ q lt. h (suc q) (omega arith)) p
all_out (o ∷ os) f (s ∷ ss) h (suc p) = all_out os f ss (λ q lt. h (suc q) (omega arith)) p

pub all_in : (ins : List InPort) (f : ℕ → Flow) (ss : List Flow) → ((p : ℕ) → p < length ins → LiesBelow (stream_at ss p) (f (in_at ins p).wire)) → ((p : ℕ) → length ins ≤ p → stream_at ss p ≡ nothing) → AllBelow ss (map f (in_wires ins))
all_in [] f ss h b p = subst (λ (s : Flow). LiesBelow s nothing) (sym (b p (omega arith))) (below_self nothing)
all_in (i ∷ is) f ss h b zero = h zero (omega arith)
all_in (i ∷ is) f [] h b (suc p) = all_in is f [] (λ q lt. h (suc q) (omega arith)) (λ q le. b (suc q) (omega arith)) p
all_in (i ∷ is) f (s ∷ ss) h b (suc p) = all_in is f ss (λ q lt. h (suc q) (omega arith)) (λ q le. b (suc q) (omega arith)) p

below_or : (p n : ℕ) → (p < n) ⊎ (n ≤ p)
below_or p zero = inr (omega arith)
below_or zero (suc n) = inl (omega arith)
below_or (suc p) (suc n) = elim (below_or p n) [ inl a ↦ inl (omega arith) | inr b ↦ inr (omega arith) ]

out_place : (outs : List OutPort) (w : ℕ) → IsIn w (out_wires outs) → (p : ℕ) × (p < length outs) × ((out_at outs p).wire ≡ w)
out_place [] w i = absurd i
out_place (o ∷ os) w (inl e) = (zero, omega arith, e)
out_place (o ∷ os) w (inr i) = let r = out_place os w i in (suc r.0, (let lt : r.0 < length os = r.1 in omega arith), r.2)

sound_bool : (b : Bool) (f : Option Fault) → (b || is_some f) ≡ false → (b ≡ false) × (f ≡ None)
sound_bool true f e = absurd (true_not_false e)
sound_bool false None e = (refl, refl)
sound_bool false (Some x) e = absurd (true_not_false e)

pub bool_sound : (b : Bool) (f : Option Fault) → (b ≡ false) × (f ≡ None) → (b || is_some f) ≡ false
bool_sound b f s = rw (s.0, s.1)

pub fed_below : (got taken : Flow) → FedAllButOne got taken → LiesBelow got taken
fed_below got taken (inl e) = inl e
fed_below got taken (inr x) = subst (λ (t : Flow). LiesBelow got t) x.1.1 (with_item_above got x.1.0 x.0)

module _ {M : Type 0} (view : M → View) (laws : (m : M) → Laws (view m)) where
  abbrev pub placed_of : Task → Node M → Placed
  placed_of task node = record { part = part_of view task node; faulty = node.refused || is_some (view node.machine).fault }

  abbrev pub all_placed : (ℕ → Task) → List (Node M) → List Placed
  all_placed tasks [] = []
  all_placed tasks (n ∷ ns) = placed_of (tasks zero) n ∷ all_placed (λ k. tasks (suc k)) ns

  pub parts_are : (tasks : ℕ → Task) (nodes : List (Node M)) → parts (all_placed tasks nodes) ≡ parts_of view tasks nodes
  parts_are tasks [] = refl
  parts_are tasks (n ∷ ns) = ap (λ (ps : List Part). part_of view (tasks zero) n ∷ ps) (parts_are (λ k. tasks (suc k)) ns)

  module _ (lanes : List Lane) (world : ℕ → Wire) (ordered : (w : ℕ) → LiesBelow (world w).taken (world w).sent) (valid_sent : (w : ℕ) → IsValidOn (lane_at lanes w) (world w).sent) where
    taken_valid : (w : ℕ) → IsValidOn (lane_at lanes w) (world w).taken
    taken_valid w = valid_on_below (lane_at lanes w) (world w).taken (world w).sent (ordered w) (valid_sent w)

    -- a node is lawful by each function that is, and by which it gave no more than is meant
    pub lawful_by : (node : Node M) (past : Past) (means : List Flow → List Flow) → IsMonotone (AreValid (view node.machine).in_lanes) means → IsCalm (AreValid (view node.machine).in_lanes) means
        → ((ss : List Flow) → AreValid (view node.machine).in_lanes ss → AreValid (view node.machine).out_lanes (means ss)) → AllBelow past.gave (means past.got)
        → HaveLanes (in_wires_of node) (view node.machine).in_lanes lanes → HaveLanes (out_wires_of node) (view node.machine).out_lanes lanes → NodeStands view node world past
        → IsLawful lanes world (record (part_of view past.task node) { means = means }) (node.refused || is_some (view node.machine).fault)
    lawful_by node past means mono calm keeps gave shaped_ins shaped_outs was =
        let part = part_of view past.task node in
        let got : AllBelow past.got (got_of world part) = all_in node.ins.items (λ w. (world w).taken) past.got (λ p lt. fed_below (stream_at past.got p) (world (in_at node.ins.items p).wire).taken ((was.ins p lt).fed)) was.beyond in
        let got_ok : AreValid (view node.machine).in_lanes (got_of world part) = map_valid lanes (λ w. (world w).taken) part.ins part.in_lanes shaped_ins.lanes_are taken_valid in
        let above : AllBelow past.gave (means (got_of world part)) = all_trans past.gave (means past.got) (means (got_of world part)) gave (mono past.got (got_of world part) ((laws node.machine).valid past was.machine) got_ok got) in record {
          ins_lanes = shaped_ins.lanes_are;
          outs_lanes = shaped_outs.lanes_are;
          monotone = mono;
          calm = calm;
          keeps = keeps;
          gives = λ ok. all_out node.outs.items (λ w. (world w).sent) (means (got_of world part)) (λ p lt.
              below_trans (world (out_at node.outs.items p).wire).sent (stream_at past.gave p) (stream_at (means (got_of world part)) p) ((was.outs p lt).exact (sound_bool node.refused (view node.machine).fault ok)) (above p));
          gives_opened = λ p. rw (stream_at-opened (gave_of world part) p) (opened_at (means (got_of world part)) above p);
          breaks_nothing = λ ok ins w i.
              let sound = sound_bool node.refused (view node.machine).fault ok in
              let place = out_place node.outs.items w i in
              let o = was.outs place.0 place.1 in
              let gots : AllUnbroken past.got = λ p. elim (below_or p (length node.ins.items)) [
                | inl lt ↦
                    let q : InPort = in_at node.ins.items p in
                    unbroken_below (stream_at past.got p) (world q.wire).taken (fed_below (stream_at past.got p) (world q.wire).taken (was.ins p lt).fed) (ins q.wire (in_wire_in node.ins.items p q.wire lt refl))
                | inr le ↦ subst IsUnbroken (sym (was.beyond p le)) (λ b. cc)
              ] in
              subst (λ (v : ℕ). IsUnbroken (world v).sent) place.2 (unbroken_below (world (out_at node.outs.items place.0).wire).sent (stream_at past.gave place.0) (o.exact sound) ((laws node.machine).unbroken past was.machine sound.1 gots place.0));
        }
      where
        opened_at : (ss : List Flow) → AllBelow past.gave ss → (p : ℕ) → LiesBelow (opened (stream_at (map (λ w. (world w).sent) (out_wires_of node)) p)) (stream_at ss p)
        opened_at ss above p =
            let all : AllBelow (map (λ w. opened (world w).sent) (out_wires_of node)) ss = all_out node.outs.items (λ w. opened (world w).sent) ss (λ q lt. below_trans (opened (world (out_at node.outs.items q).wire).sent) (stream_at past.gave q) (stream_at ss q) (was.outs q lt).opened_below (above q)) in
            subst (λ (s : Flow). LiesBelow s (stream_at ss p)) (opened_map (out_wires_of node) p) (all p)
          where
            opened_map : (ws : List ℕ) (q : ℕ) → stream_at (map (λ w. opened (world w).sent) ws) q ≡ opened (stream_at (map (λ w. (world w).sent) ws) q)
            opened_map [] q = refl
            opened_map (w ∷ ws) zero = refl
            opened_map (w ∷ ws) (suc q) = opened_map ws q

    lawful_at : (node : Node M) (past : Past) → HaveLanes (in_wires_of node) (view node.machine).in_lanes lanes → HaveLanes (out_wires_of node) (view node.machine).out_lanes lanes → NodeStands view node world past → IsLawful lanes world (part_of view past.task node) (node.refused || is_some (view node.machine).fault)
    lawful_at node past shaped_ins shaped_outs was =
        let l = laws node.machine in
        lawful_by node past past.task.means (l.monotone past was.machine) (l.calm past was.machine) (l.keeps past was.machine) (given_below past (l.units_below past was.machine) (l.given past was.machine)) shaped_ins shaped_outs was

    are_lawful : (nodes : List (Node M)) (tasks : ℕ → Task) → ((k : ℕ) (d : Node M) → k < length nodes → HaveLanes (in_wires_of (slice_index_or nodes k d)) (view (slice_index_or nodes k d).machine).in_lanes lanes) → ((k : ℕ) (d : Node M) → k < length nodes → HaveLanes (out_wires_of (slice_index_or nodes k d)) (view (slice_index_or nodes k d).machine).out_lanes lanes) → ((k : ℕ) (d : Node M) → k < length nodes → (past : Past) × NodeStands view (slice_index_or nodes k d) world past × (past.task ≡ tasks k)) → AreLawful lanes world (all_placed tasks nodes)
    are_lawful [] tasks shaped_ins shaped_outs each = tt
    are_lawful (n ∷ ns) tasks shaped_ins shaped_outs each =
        let mine = each zero n (omega arith) in (
          subst (λ (t : Task). IsLawful lanes world (part_of view t n) (n.refused || is_some (view n.machine).fault)) mine.2 (lawful_at n mine.0 (shaped_ins zero n (omega arith)) (shaped_outs zero n (omega arith)) mine.1),
          are_lawful ns (λ k. tasks (suc k)) (λ k d lt. shaped_ins (suc k) d (omega arith)) (λ k d lt. shaped_outs (suc k) d (omega arith)) (λ k d lt. each (suc k) d (omega arith)),
        )

  pub are_faultless : (nodes : List (Node M)) (tasks : ℕ → Task) → ((k : ℕ) (d : Node M) → k < length nodes → IsSound view (slice_index_or nodes k d)) → AreFaultless (all_placed tasks nodes)
  are_faultless [] tasks each = tt
  are_faultless (n ∷ ns) tasks each = (bool_sound n.refused (view n.machine).fault (each zero n (omega arith)), are_faultless ns (λ k. tasks (suc k)) (λ k d lt. each (suc k) d (omega arith)))

  is_input : (nodes : List (Node M)) (tasks : ℕ → Task) (k : ℕ) (d : Node M) (w : ℕ) → k < length nodes → IsIn w (in_wires_of (slice_index_or nodes k d)) → IsInputOf (all_placed tasks nodes) w
  is_input [] tasks k d w lt i = absurd (omega arith)
  is_input (n ∷ ns) tasks zero d w lt i = inl i
  is_input (n ∷ ns) tasks (suc k) d w lt i = inr (is_input ns (λ j. tasks (suc j)) k d w (omega arith) i)

  module _ (nodes : List (Node M)) (lanes : List Lane) (world : ℕ → Wire) (tasks : ℕ → Task) (net : Moment view tasks nodes lanes world) (up : IsUpward [] (parts_of view tasks nodes)) where
    pub net_of : IsNet lanes (all_placed tasks nodes) world
    net_of = record {
      lawful = are_lawful lanes world net.ordered net.valid nodes tasks net.ins net.outs net.each;
      upward = subst (λ (ps : List Part). IsUpward [] ps) (sym (parts_are tasks nodes)) up;
      ordered = net.ordered;
      valid = net.valid;
    }

    pub opened_below_solution : (k : ℕ) (d : Node M) (w : ℕ) → k < length nodes → IsIn w (in_wires_of (slice_index_or nodes k d)) → LiesBelow (opened (world w).taken) (solve (parts_of view tasks nodes) w)
    opened_below_solution k d w lt i = subst (λ (ps : List Part). LiesBelow (opened (world w).taken) (solve ps w)) (parts_are tasks nodes) (opened_solve lanes (all_placed tasks nodes) world w net_of (is_input nodes tasks k d w lt i))

    module _ (sound : (k : ℕ) (d : Node M) → k < length nodes → IsSound view (slice_index_or nodes k d)) (k : ℕ) (d : Node M) (lt : k < length nodes) (done : IsDone (slice_index_or nodes k d)) (sink : length (slice_index_or nodes k d).outs.items ≡ 0) where
      node : Node M
      node = slice_index_or nodes k d

      pub at_port : (p : ℕ) → p < length (slice_index_or nodes k d).ins.items
          → ((world (in_at (slice_index_or nodes k d).ins.items p).wire).taken ≡ solve (parts_of view tasks nodes) (in_at (slice_index_or nodes k d).ins.items p).wire) × IsWhole (world (in_at (slice_index_or nodes k d).ins.items p).wire).taken
      at_port p plt =
          let mine = net.each k d lt in
          let i = mine.1.ins p plt in
          let w = (in_at (slice_index_or nodes k d).ins.items p).wire in
          let closed : IsClosed (world w).taken = elim (i.reason (done.ins p plt) (sound k d lt)) [ inl c ↦ c | inr m ↦ absurd (let z : 0 < length (slice_index_or nodes k d).outs.items = m.0 in omega (arith, z, sink)) ] in
          let fine = are_faultless nodes tasks sound in
          let input = is_input nodes tasks k d w lt (in_wire_in (slice_index_or nodes k d).ins.items p w plt refl) in
          let below : LiesBelow (world w).taken (solve (parts (all_placed tasks nodes)) w) = below_trans (world w).taken (world w).sent (solve (parts (all_placed tasks nodes)) w) (net.ordered w) (exact_solve lanes (all_placed tasks nodes) world w net_of fine (inl input)) in (
            closed_below (world w).taken (solve (parts (all_placed tasks nodes)) w) below closed ∙ ap (λ (ps : List Part). solve ps w) (parts_are tasks nodes),
            whole_if_closed (world w).taken closed (unbroken_below (world w).taken (world w).sent (net.ordered w) (sent_unbroken lanes (all_placed tasks nodes) world w net_of fine input)),
          )

      pub settled_of : Settled view (tasks k) (parts_of view tasks nodes) (slice_index_or nodes k d)
      settled_of =
          let mine = net.each k d lt in record {
            past = mine.0;
            machine = mine.1.machine;
            task_is = mine.2;
            got = λ p plt. (mine.1.ins p plt).exact (sound k d lt).0 ∙ (at_port p plt).0;
            whole = λ p plt. let a = at_port p plt in subst IsWhole a.0 a.1;
          }

-- nodes on wires at one moment
pub moment_of : {M : Type 0} (view : M → View) (tasks : ℕ → Task) (nodes : List (Node M)) (wires : Wires) (net : NetStands view tasks nodes wires) → AreShaped view nodes wires
    → Moment view tasks nodes (lanes_of wires) net.world
moment_of view tasks nodes wires net shaped = record {
  ins = λ k d lt. (shaped.each k d lt).ins;
  outs = λ k d lt. (shaped.each k d lt).outs;
  outs_apart = shaped.outs_apart;
  ordered = net.stand.ordered;
  valid = net.stand.valid;
  each = net.each;
}
