-- One node takes a turn, and the others stand as they did.
use Rattle.std.proofs.Common.{◌≡◌, ℕ, ◌<◌, inl, inr, List, length, slice_index_or, slice_set, refl, ap, sym, ◌∙◌, subst, get_or-set_same, get_or-set_other, zero, suc, [], ◌∷◌, arith}
use Rattle.std.proofs.lemmas.List.{length-set, get_or_default}
use Rattle.ff_stream.specs.declared.item.Lane.{Lane}
use Rattle.ff_stream.specs.Ports.{stream_at}
use Rattle.ff_net.specs.declared.ports.InPort.{InPort}
use Rattle.ff_net.specs.declared.ports.OutPort.{OutPort}
use Rattle.ff_net.specs.declared.node.Node.{Node}
use Rattle.ff_net.specs.declared.wires.Wires.{Wires}
use Rattle.ff_net.specs.Pasts.{Past, Task, IsIn}
use Rattle.ff_net.specs.laws.Ports.{in_at, out_at}
use Rattle.ff_net.specs.laws.Worlds.{Wire}
use Rattle.ff_net.specs.laws.Nodes.{NodeStands, IsOf, IsShaped, HaveLanes, IsSound, MayClose, in_wires_of, out_wires_of}
use Rattle.ff_net.specs.laws.Laws.{FaultStep}
use Rattle.ff_net.specs.laws.Steps.{Course, Stepped}
use Rattle.ff_net.specs.laws.Logs.{PassStep}
use Rattle.ff_sched.specs.laws.Passing.{Scheduler}
use Rattle.ff_net.proofs.Granting.{of_later}
use Rattle.ff_net.proofs.Moments.{fault_self, pass_self}
use Rattle.ff_net.specs.laws.Serial.{AreOf, AreShaped, NetStands, part_of, parts_of}
use Rattle.ff_net.specs.Nets.{Part}
use Rattle.ff_net.specs.laws.Views.{View}
use Rattle.ff_net.proofs.Flows.{same_or_not}
use Rattle.ff_net.proofs.PortSteps.{in_keep, out_keep, out_wire_in, in_wire_in}
use Rattle.ff_net.proofs.Rounds.{shaped_later}

-- a node whose own wires didn't change stands as it did
pub other_stands : {M : Type 0} (view : M → View) (node : Node M) (ins outs : List ℕ) (world world' : ℕ → Wire) (past mine mine' : Past)
    → Course ins outs world world' mine mine' → ((w : ℕ) → IsIn w (in_wires_of node) → IsIn w ins → ⊥) → ((w : ℕ) → IsIn w (out_wires_of node) → IsIn w outs → ⊥)
    → NodeStands view node world past → NodeStands view node world' past
other_stands view node ins outs world world' past mine mine' f ins_apart outs_apart was = record {
  machine = was.machine;
  ins = λ q lt.
      let i : InPort = in_at node.ins.items q in
      let mine = ins_apart i.wire (in_wire_in node.ins.items q i.wire lt refl) in
      in_keep i (world i.wire) (world' i.wire) (stream_at past.got q) node.refused node.refused (IsSound view node) (IsSound view node) (MayClose view node past q) (MayClose view node past q) (f.taken i.wire mine) (f.finished i.wire mine) (λ r. r) (λ s. s) (λ m. m) (was.ins q lt);
  outs = λ q lt.
      let o : OutPort = out_at node.outs.items q in
      out_keep o (world o.wire) (world' o.wire) (stream_at past.gave q) (IsIn q past.stopped) (IsIn q past.stopped) (IsSound view node) (IsSound view node) (f.sent o.wire (outs_apart o.wire (out_wire_in node.outs.items q o.wire lt refl))) (f.stays_finished o.wire) (λ s. s) (λ s. s) (was.outs q lt);
  beyond = was.beyond;
  stopped = was.stopped;
  log = was.log;
}

module _ {M : Type 0} (view : M → View) (how : (ℕ → Wire) → Past → (ℕ → Wire) → Past → Type 0) (nodes : List (Node M)) (wires : Wires) (k : ℕ) (old new : Node M) (wires' : Wires)
    (there : k < length nodes) (is : old ≡ slice_index_or nodes k old) (shaped : AreShaped view nodes wires) (step : Stepped view how old wires new wires') where
  node_at : (j : ℕ) (d : Node M) → j ≡ k → slice_index_or (slice_set nodes k new) j d ≡ new
  node_at j d e = rw (e, get_or-set_same nodes k new d there)

  same_old : (d : Node M) → old ≡ slice_index_or nodes k d
  same_old d = is ∙ get_or_default nodes k old d there

  pub fares_set : (j : ℕ) (d : Node M) → FaultStep (view (slice_index_or nodes j d).machine) (view (slice_index_or (slice_set nodes k new) j d).machine)
  fares_set j d =
      elim (same_or_not j k) [
        | inl e ↦ rw (node_at j d e) (rw (ap (λ (n : ℕ). slice_index_or nodes n d) e ∙ sym (same_old d)) step.fares)
        | inr n ↦ rw (get_or-set_other nodes k j new d n) (fault_self (view (slice_index_or nodes j d).machine))
      ]

  pub passes_set : (j : ℕ) (d : Node M) → PassStep (slice_index_or nodes j d).pass (slice_index_or (slice_set nodes k new) j d).pass
  passes_set j d =
      elim (same_or_not j k) [
        | inl e ↦ rw (node_at j d e) (rw (ap (λ (n : ℕ). slice_index_or nodes n d) e ∙ sym (same_old d)) step.passes)
        | inr n ↦ rw (get_or-set_other nodes k j new d n) (pass_self (slice_index_or nodes j d).pass)
      ]

  pub are_of_set : (cell : Scheduler) → AreOf view cell nodes → AreOf view cell (slice_set nodes k new)
  are_of_set cell are j d lt =
      let len : length (slice_set nodes k new) ≡ length nodes = simp length-set in
      let mine : IsOf view cell old = subst (λ (n : Node M). IsOf view cell n) (sym is) (are k old there) in
      elim (same_or_not j k) [
        | inl e ↦ subst (λ (n : Node M). IsOf view cell n) (sym (node_at j d e)) (of_later view how cell old wires new wires' step mine)
        | inr n ↦ subst (λ (m : Node M). IsOf view cell m) (sym (get_or-set_other nodes k j new d n)) (are j d (subst (λ (m : ℕ). j < m) len lt))
      ]

  ins_at : (j : ℕ) (d : Node M) → in_wires_of (slice_index_or (slice_set nodes k new) j d) ≡ in_wires_of (slice_index_or nodes j d)
  ins_at j d =
      elim (same_or_not j k) [
        | inl e ↦ ap in_wires_of (node_at j d e) ∙ (step.ins_same ∙ (ap in_wires_of (same_old d) ∙ ap (λ (n : ℕ). in_wires_of (slice_index_or nodes n d)) (sym e)))
        | inr n ↦ ap in_wires_of (get_or-set_other nodes k j new d n)
      ]

  outs_at : (j : ℕ) (d : Node M) → out_wires_of (slice_index_or (slice_set nodes k new) j d) ≡ out_wires_of (slice_index_or nodes j d)
  outs_at j d =
      elim (same_or_not j k) [
        | inl e ↦ ap out_wires_of (node_at j d e) ∙ (step.outs_same ∙ (ap out_wires_of (same_old d) ∙ ap (λ (n : ℕ). out_wires_of (slice_index_or nodes n d)) (sym e)))
        | inr n ↦ ap out_wires_of (get_or-set_other nodes k j new d n)
      ]

  shaped_lanes : (node : Node M) → IsShaped view node wires → IsShaped view node wires'
  shaped_lanes node s = record {
    ins = subst (λ (ls : List Lane). HaveLanes (in_wires_of node) (view node.machine).in_lanes ls) (sym step.lanes_same) s.ins;
    outs = subst (λ (ls : List Lane). HaveLanes (out_wires_of node) (view node.machine).out_lanes ls) (sym step.lanes_same) s.outs;
  }

  shaped_old : IsShaped view old wires
  shaped_old = subst (λ (n : Node M). IsShaped view n wires) (sym is) (shaped.each k old there)

  pub are_shaped_set : AreShaped view (slice_set nodes k new) wires'
  are_shaped_set =
      let len : length (slice_set nodes k new) ≡ length nodes = simp length-set in record {
        each = λ j d lt. elim (same_or_not j k) [
          | inl e ↦ subst (λ (n : Node M). IsShaped view n wires') (sym (node_at j d e)) (shaped_later view how old wires new wires' step shaped_old)
          | inr n ↦ subst (λ (m : Node M). IsShaped view m wires') (sym (get_or-set_other nodes k j new d n)) (shaped_lanes (slice_index_or nodes j d) (shaped.each j d (subst (λ (m : ℕ). j < m) len lt)))
        ];
        ins_apart = λ i j w d ilt jlt a b. shaped.ins_apart i j w d (subst (λ (m : ℕ). i < m) len ilt) (subst (λ (m : ℕ). j < m) len jlt) (subst (λ (ws : List ℕ). IsIn w ws) (ins_at i d) a) (subst (λ (ws : List ℕ). IsIn w ws) (ins_at j d) b);
        outs_apart = λ i j w d ilt jlt a b. shaped.outs_apart i j w d (subst (λ (m : ℕ). i < m) len ilt) (subst (λ (m : ℕ). j < m) len jlt) (subst (λ (ws : List ℕ). IsIn w ws) (outs_at i d) a) (subst (λ (ws : List ℕ). IsIn w ws) (outs_at j d) b);
      }

  pub net_stands_set : (tasks : ℕ → Task) → NetStands view tasks nodes wires → NetStands view tasks (slice_set nodes k new) wires'
  net_stands_set tasks net =
      let len : length (slice_set nodes k new) ≡ length nodes = simp length-set in
      let mine = net.each k old there in
      let mine' : NodeStands view old net.world mine.0 = subst (λ (n : Node M). NodeStands view n net.world mine.0) (sym is) mine.1 in
      let moved = step.goes net.world mine.0 net.stand mine' in record {
        world = moved.now;
        stand = moved.stand;
        each = λ j d lt.
            let lt' : j < length nodes = subst (λ (m : ℕ). j < m) len lt in
            elim (same_or_not j k) [
              | inl e ↦ (moved.since, subst (λ (n : Node M). NodeStands view n moved.now moved.since) (sym (node_at j d e)) moved.fits, moved.course.task ∙ (mine.2 ∙ ap tasks (sym e)))
              | inr n ↦
                  let his = net.each j d lt' in (
                    his.0,
                    subst (λ (m : Node M). NodeStands view m moved.now his.0) (sym (get_or-set_other nodes k j new d n))
                        (other_stands view (slice_index_or nodes j d) (in_wires_of old) (out_wires_of old) net.world moved.now his.0 mine.0 moved.since moved.course
                        (λ w a b. n (shaped.ins_apart j k w d lt' there a (subst (λ (m : Node M). IsIn w (in_wires_of m)) (same_old d) b)))
                        (λ w a b. n (shaped.outs_apart j k w d lt' there a (subst (λ (m : Node M). IsIn w (out_wires_of m)) (same_old d) b)))
                        his.1),
                    his.2,
                  )
            ];
      }

  parts_set : (tasks : ℕ → Task) (ns : List (Node M)) (j : ℕ) (d : Node M) → j < length ns → ((task : Task) → part_of view task new ≡ part_of view task (slice_index_or ns j d)) → parts_of view tasks (slice_set ns j new) ≡ parts_of view tasks ns
  parts_set tasks [] j d lt e = absurd (omega arith)
  parts_set tasks (n ∷ ns) zero d lt e = ap (λ (p : Part). p ∷ parts_of view (λ i. tasks (suc i)) ns) (e (tasks zero))
  parts_set tasks (n ∷ ns) (suc j) d lt e = ap (λ (ps : List Part). part_of view (tasks zero) n ∷ ps) (parts_set (λ i. tasks (suc i)) ns j d (omega arith) e)

  part_kept : (task : Task) → part_of view task new ≡ part_of view task old
  part_kept task =
      let make : List Lane → List Lane → List ℕ → List ℕ → Part = λ is os ins outs. record { means = task.means; source = task.source; in_lanes = is; out_lanes = os; ins = ins; outs = outs } in
      ap (λ (ls : List Lane). make ls (view new.machine).out_lanes (in_wires_of new) (out_wires_of new)) step.in_lanes_same
      ∙ (ap (λ (ls : List Lane). make (view old.machine).in_lanes ls (in_wires_of new) (out_wires_of new)) step.out_lanes_same
      ∙ (ap (λ (ws : List ℕ). make (view old.machine).in_lanes (view old.machine).out_lanes ws (out_wires_of new)) step.ins_same
      ∙ ap (λ (ws : List ℕ). make (view old.machine).in_lanes (view old.machine).out_lanes (in_wires_of old) ws) step.outs_same))

  -- the parts are those that they were
  pub parts_kept : (tasks : ℕ → Task) → parts_of view tasks (slice_set nodes k new) ≡ parts_of view tasks nodes
  parts_kept tasks = parts_set tasks nodes k old there (λ task. part_kept task ∙ ap (λ (n : Node M). part_of view task n) (same_old old))
