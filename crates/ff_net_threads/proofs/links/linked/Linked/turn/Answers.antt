use Rattle.std.proofs.Common.{◌≡◌, ℕ, ◌<◌, ◌≤◌, ◌+◌, length, ◌||◌, inl, inr, true, slice_index_or, sym, ◌∙◌, ap, subst}
use Rattle.ff_stream.specs.Ports.{IsClosed}
use Rattle.ff_net.specs.declared.node.Node.{Node}
use Rattle.ff_net.specs.Pasts.{Past}
use Rattle.ff_net.specs.laws.Worlds.{Wire}
use Rattle.ff_net.specs.declared.wires.Wires.{Wires}
use Rattle.ff_net.specs.laws.Logs.{tickets_in}
use Rattle.ff_net.specs.laws.Nodes.{IsSound, NodeStands, HasFinished, IsOver, machine_of, pass_of, inputs_of, outputs_of, in_wire_of}
use Rattle.ff_sched.specs.laws.Passing.{Passing}
use Rattle.ff_net.specs.laws.Steps.{Moves, Stepped}
use Rattle.ff_net.proofs.Changes.{true_not_false}
use Rattle.ff_net.proofs.Rounds.{or_false}
use Rattle.ff_net_threads.specs.declared.links.ends.InEnd.{InEnd}
use Rattle.ff_net_threads.specs.laws.links.Ends.{in_end_at, taken_of}
use Rattle.ff_net_threads.specs.laws.links.Turns.{InMoves, InRests, Shuts, SendsOneAtMost, OutMoves, OutRests, CannotSend}
use Rattle.ff_net_threads.proofs.LinksLemmas.Linking.{follows_then, lawful_after, of_after}
use Rattle.ff_net_threads.proofs.LinksLemmas.Turns.{takes_then, drawn_none_then, false_if_not, shut_port, stop_port, after_stop, node_idle, moved_of}
use Rattle.ff_net_threads.proofs.links.linked.Linked.turn.Goals as goal

pub turn_node-turned-requires-clause-lawful : goal.turn_node-turned-requires-clause-lawful
turn_node-turned-requires-clause-lawful g c = lawful_after g.M.Machine.view c.args.self.now c.draw_if_free-drawn.new.self c.draw_if_free-drawn.ensures.follows c.requires.lawful

pub turn_node-turned-requires-clause-cell : goal.turn_node-turned-requires-clause-cell
turn_node-turned-requires-clause-cell g c = of_after g.M.Machine.view c.args.cell.now c.args.self.now c.draw_if_free-drawn.new.self c.draw_if_free-drawn.ensures.follows c.requires.cell

pub pour_all-poured-requires : goal.pour_all-poured-requires
pour_all-poured-requires g c =
    let view = g.M.Machine.view in
    lawful_after view c.draw_if_free-drawn.new.self c.turn_node-turned.new.self c.turn_node-turned.ensures.follows
    (lawful_after view c.args.self.now c.draw_if_free-drawn.new.self c.draw_if_free-drawn.ensures.follows c.requires.lawful)

pub stop_finished-stopped-requires : goal.stop_finished-stopped-requires
stop_finished-stopped-requires g c =
    let view = g.M.Machine.view in
    lawful_after view c.turn_node-turned.new.self c.pour_all-poured.new.self c.pour_all-poured.ensures.follows
    (lawful_after view c.draw_if_free-drawn.new.self c.turn_node-turned.new.self c.turn_node-turned.ensures.follows
    (lawful_after view c.args.self.now c.draw_if_free-drawn.new.self c.draw_if_free-drawn.ensures.follows c.requires.lawful))

pub shut_ends-shut-requires : goal.shut_ends-shut-requires
shut_ends-shut-requires g c =
    let view = g.M.Machine.view in
    lawful_after view c.pour_all-poured.new.self c.stop_finished-stopped.new.self c.stop_finished-stopped.ensures.follows
    (lawful_after view c.turn_node-turned.new.self c.pour_all-poured.new.self c.pour_all-poured.ensures.follows
    (lawful_after view c.draw_if_free-drawn.new.self c.turn_node-turned.new.self c.turn_node-turned.ensures.follows
    (lawful_after view c.args.self.now c.draw_if_free-drawn.new.self c.draw_if_free-drawn.ensures.follows c.requires.lawful)))

pub returns-clause-follows : goal.returns-clause-follows
returns-clause-follows g c =
    let view = g.M.Machine.view in
    follows_then view c.args.self.now c.stop_finished-stopped.new.self c.shut_ends-shut.new.self
    (follows_then view c.args.self.now c.pour_all-poured.new.self c.stop_finished-stopped.new.self
    (follows_then view c.args.self.now c.turn_node-turned.new.self c.pour_all-poured.new.self
    (follows_then view c.args.self.now c.draw_if_free-drawn.new.self c.turn_node-turned.new.self c.draw_if_free-drawn.ensures.follows c.turn_node-turned.ensures.follows) c.pour_all-poured.ensures.follows)
    c.stop_finished-stopped.ensures.follows) c.shut_ends-shut.ensures.follows

pub returns-clause-once : goal.returns-clause-once
returns-clause-once g c =
    let same : pass_of c.shut_ends-shut.new.self.node ≡ pass_of c.turn_node-turned.new.self.node =
    ap (λ (n : Node _). pass_of n) c.shut_ends-shut.ensures.node ∙ (c.stop_finished-stopped.ensures.pass ∙ ap (λ (n : Node _). pass_of n) c.pour_all-poured.ensures.node) in
    subst (λ (p : Passing). length (tickets_in p.log) ≤ length (tickets_in (pass_of c.args.self.now.node).log) + 1) (sym same)
    (subst (λ (p : Passing). length (tickets_in (pass_of c.turn_node-turned.new.self.node).log) ≤ length (tickets_in p.log) + 1) c.draw_if_free-drawn.ensures.pass c.turn_node-turned.ensures.once)

pub returns-clause-takes : goal.returns-clause-takes
returns-clause-takes g c p =
    let drawn = c.draw_if_free-drawn.new.self in
    let stopped = c.stop_finished-stopped.new.self in
    let last = c.shut_ends-shut.new.self in
    let same = c.stop_finished-stopped.ensures.ins ∙ (c.pour_all-poured.ensures.ins ∙ c.turn_node-turned.ensures.ins) in
    takes_then (in_end_at c.args.self.now.ins.items p) (in_end_at drawn.ins.items p) (in_end_at last.ins.items p) (c.draw_if_free-drawn.ensures.takes p)
    (subst (λ ends. Shuts (in_end_at ends.items p) (in_end_at last.ins.items p)) same (c.shut_ends-shut.ensures.shuts p))

pub returns-clause-sends : goal.returns-clause-sends
returns-clause-sends g c q d =
    let poured = c.pour_all-poured.new.self in
    subst (λ ends. SendsOneAtMost (slice_index_or ends.items q d) (slice_index_or c.shut_ends-shut.new.self.outs.items q d)) (c.turn_node-turned.ensures.outs ∙ c.draw_if_free-drawn.ensures.outs)
    (subst (λ ends. SendsOneAtMost (slice_index_or c.turn_node-turned.new.self.outs.items q d) (slice_index_or ends.items q d)) (sym (c.shut_ends-shut.ensures.outs ∙ c.stop_finished-stopped.ensures.outs)) (c.pour_all-poured.ensures.sends q d))

pub returns-clause-waits : goal.returns-clause-waits
returns-clause-waits g c q d lt w p =
    let same = c.stop_finished-stopped.ensures.ins ∙ (c.pour_all-poured.ensures.ins ∙ c.turn_node-turned.ensures.ins) in
    let kept = false_if_not c.may_take-may_take.result (λ may. c.may_take-may_take.ensures.none may q d lt w) in
    (c.shut_ends-shut.ensures.shuts p).taken ∙ (ap (λ ends. taken_of (in_end_at ends.items p)) same ∙ ap (λ ends. taken_of (in_end_at ends.items p)) (c.draw_if_free-drawn.ensures.held_back kept))

pub returns-clause-ungranted : goal.returns-clause-ungranted
returns-clause-ungranted g c q d lt w =
    let same : pass_of c.shut_ends-shut.new.self.node ≡ pass_of c.turn_node-turned.new.self.node =
    ap (λ (n : Node _). pass_of n) c.shut_ends-shut.ensures.node ∙ (c.stop_finished-stopped.ensures.pass ∙ ap (λ (n : Node _). pass_of n) c.pour_all-poured.ensures.node) in
    let kept = false_if_not c.may_take-may_take.result (λ may. c.may_take-may_take.ensures.none may q d lt w) in
    ap (λ (p : Passing). tickets_in p.log) same ∙ (c.turn_node-turned.ensures.held_back kept ∙ ap (λ (p : Passing). tickets_in p.log) c.draw_if_free-drawn.ensures.pass)

pub returns-clause-due : goal.returns-clause-due
returns-clause-due g c world past q stand was d p =
    let same = c.stop_finished-stopped.ensures.ins ∙ (c.pour_all-poured.ensures.ins ∙ c.turn_node-turned.ensures.ins) in
    (c.shut_ends-shut.ensures.shuts p).taken ∙ (ap (λ ends. taken_of (in_end_at ends.items p)) same ∙ c.draw_if_free-drawn.ensures.due world past q stand was d p)

pub returns-clause-moved : goal.returns-clause-moved
returns-clause-moved g c says =
    let view = g.M.Machine.view in
    let old = c.args.self.now in
    let drawn = c.draw_if_free-drawn.new.self in
    let turned = c.turn_node-turned.new.self in
    let poured = c.pour_all-poured.new.self in
    let stopped = c.stop_finished-stopped.new.self in
    let last = c.shut_ends-shut.new.self in
    let same = c.stop_finished-stopped.ensures.ins ∙ (c.pour_all-poured.ensures.ins ∙ c.turn_node-turned.ensures.ins) in
    let shuts : (p : ℕ) → Shuts (in_end_at drawn.ins.items p) (in_end_at last.ins.items p) = λ p. subst (λ ends. Shuts (in_end_at ends.items p) (in_end_at last.ins.items p)) same (c.shut_ends-shut.ensures.shuts p) in
    moved_of view old drawn turned stopped last c.draw_if_free-drawn.result c.turn_node-turned.result c.pour_all-poured.result c.stop_finished-stopped.result c.shut_ends-shut.result c.draw_if_free-drawn.ensures.pass c.shut_ends-shut.ensures.node (λ n. (c.stop_finished-stopped.ensures.still n).0 ∙ c.pour_all-poured.ensures.node) shuts c.draw_if_free-drawn.ensures.takes c.draw_if_free-drawn.ensures.moved c.draw_if_free-drawn.ensures.still
    c.turn_node-turned.ensures.stepped
    (λ t. elim (c.turn_node-turned.ensures.moved t) [ inl s ↦ inl s | inr more ↦ elim more [ inl l ↦ inr (inl l) | inr d ↦ inr (inr (λ was. true_not_false (sym (c.is_done-was_done.ensures.exact was) ∙ d.0), d.1)) ] ])
    (λ t. let h = c.pour_all-poured.ensures.moved t in (
      h.0,
      λ d. subst (λ ends. OutMoves (slice_index_or ends.items h.0 d) (slice_index_or last.outs.items h.0 d)) (c.turn_node-turned.ensures.outs ∙ c.draw_if_free-drawn.ensures.outs)
          (subst (λ ends. OutMoves (slice_index_or turned.outs.items h.0 d) (slice_index_or ends.items h.0 d)) (sym (c.shut_ends-shut.ensures.outs ∙ c.stop_finished-stopped.ensures.outs)) (h.1 d)),
    ))
    (λ n t. subst (λ (w : Wires). Stepped view (λ a p b q. Moves a b p q) turned.node w stopped.node stopped.wires) (c.pour_all-poured.ensures.still n).1
    (subst (λ (x : Node _). Stepped view (λ a p b q. Moves a b p q) x poured.wires stopped.node stopped.wires) c.pour_all-poured.ensures.node (c.stop_finished-stopped.ensures.moved t)))
    (λ t. let h = c.shut_ends-shut.ensures.moved t in (h.0, subst (λ ends. InMoves (in_end_at ends.items h.0) (in_end_at last.ins.items h.0)) same h.1))
    (c.turn_of.ensures.moved says)

pub returns-clause-not_yet : goal.returns-clause-not_yet
returns-clause-not_yet g c says =
    let view = g.M.Machine.view in
    let old = c.args.self.now in
    let drawn = c.draw_if_free-drawn.new.self in
    let turned = c.turn_node-turned.new.self in
    let poured = c.pour_all-poured.new.self in
    let last = c.shut_ends-shut.new.self in
    let d = c.draw_if_free-drawn.result in
    let t = c.turn_node-turned.result in
    let u = c.pour_all-poured.result in
    let a = or_false (((d || t) || u) || c.stop_finished-stopped.result) c.shut_ends-shut.result (c.turn_of.ensures.not_yet says).0 in
    let f = or_false ((d || t) || u) c.stop_finished-stopped.result a.0 in
    let node : last.node ≡ turned.node = c.shut_ends-shut.ensures.node ∙ ((c.stop_finished-stopped.ensures.still f.1).0 ∙ c.pour_all-poured.ensures.node) in
    let same = c.stop_finished-stopped.ensures.ins ∙ (c.pour_all-poured.ensures.ins ∙ c.turn_node-turned.ensures.ins) in
    let b = or_false (d || t) u f.0 in
    let e = or_false d t b.0 in
    let pours = c.pour_all-poured.ensures.still b.1 in
    let may_take = c.may_take-may_take.result in
    let stays : (p : ℕ) → in_end_at last.ins.items p ≡ in_end_at drawn.ins.items p = λ p. c.shut_ends-shut.ensures.still a.1 p ∙ ap (λ ends. in_end_at ends.items p) same in
    let wires : last.wires ≡ turned.wires = c.shut_ends-shut.ensures.wires ∙ ((c.stop_finished-stopped.ensures.still f.1).1 ∙ pours.1) in
    let draws = c.draw_if_free-drawn.ensures.still e.0 in record {
      ins = λ p. subst (λ (x : InEnd). InRests (in_end_at old.ins.items p) x) (sym (stays p)) (draws.0 p);
      unsent = λ q x lt.
          let outs = c.turn_node-turned.ensures.outs ∙ c.draw_if_free-drawn.ensures.outs in
          subst (λ (w : Wires). CannotSend w (slice_index_or old.outs.items q x) (slice_index_or last.outs.items q x)) (sym wires)
          (subst (λ ends. CannotSend turned.wires (slice_index_or ends.items q x) (slice_index_or last.outs.items q x)) outs
          (subst (λ ends. CannotSend turned.wires (slice_index_or turned.outs.items q x) (slice_index_or ends.items q x)) (sym (c.shut_ends-shut.ensures.outs ∙ c.stop_finished-stopped.ensures.outs))
          (c.pour_all-poured.ensures.why b.1 q x (subst (λ ends. q < length ends.items) (sym outs) lt))));
      may_take = may_take;
      waits = c.may_take-may_take.ensures.one;
      untaken = λ may. drawn_none_then view old drawn last stays (c.draw_if_free-drawn.ensures.why e.0 may);
      outs = λ q x. subst (λ ends. OutRests (slice_index_or ends.items q x) (slice_index_or last.outs.items q x)) (c.turn_node-turned.ensures.outs ∙ c.draw_if_free-drawn.ensures.outs)
          (subst (λ ends. OutRests (slice_index_or turned.outs.items q x) (slice_index_or ends.items q x)) (sym (c.shut_ends-shut.ensures.outs ∙ c.stop_finished-stopped.ensures.outs)) (pours.0 q x));
      node = elim (c.turn_node-turned.ensures.still e.1) [
        | inl s ↦ inl (node_idle view old drawn turned last draws.1 node may_take c.draw_if_free-drawn.ensures.pass wires s)
        | inr was ↦ inr (c.is_done-was_done.ensures.done was)
      ];
    }

pub returns-clause-closed : goal.returns-clause-closed
returns-clause-closed g c =
    let view = g.M.Machine.view in
    after_stop view (λ (n : Node _). (world : ℕ → Wire) (past : Past) → NodeStands view n world past → (p : ℕ) → p < inputs_of n → IsClosed (world (in_wire_of n p)).taken → HasFinished n p)
    c.turn_node-turned.new.self c.pour_all-poured.new.self c.stop_finished-stopped.new.self c.shut_ends-shut.new.self c.stop_finished-stopped.result c.pour_all-poured.ensures.node c.shut_ends-shut.ensures.node (λ n. (c.stop_finished-stopped.ensures.still n).0) c.turn_node-turned.ensures.closed c.stop_finished-stopped.ensures.closed

pub returns-clause-spent : goal.returns-clause-spent
returns-clause-spent g c =
    let view = g.M.Machine.view in
    after_stop view (λ (n : Node _). (p : ℕ) → p < inputs_of n → (view (machine_of n)).spent p → HasFinished n p)
    c.turn_node-turned.new.self c.pour_all-poured.new.self c.stop_finished-stopped.new.self c.shut_ends-shut.new.self c.stop_finished-stopped.result c.pour_all-poured.ensures.node c.shut_ends-shut.ensures.node (λ n. (c.stop_finished-stopped.ensures.still n).0) c.turn_node-turned.ensures.spent c.stop_finished-stopped.ensures.spent

pub returns-clause-faulty : goal.returns-clause-faulty
returns-clause-faulty g c =
    let view = g.M.Machine.view in
    after_stop view (λ (n : Node _). (IsSound view n → ⊥) → (p : ℕ) → p < inputs_of n → HasFinished n p)
    c.turn_node-turned.new.self c.pour_all-poured.new.self c.stop_finished-stopped.new.self c.shut_ends-shut.new.self c.stop_finished-stopped.result c.pour_all-poured.ensures.node c.shut_ends-shut.ensures.node (λ n. (c.stop_finished-stopped.ensures.still n).0) c.turn_node-turned.ensures.faulty c.stop_finished-stopped.ensures.faulty

pub returns-clause-stopped : goal.returns-clause-stopped
returns-clause-stopped g c task b q d lt done =
    let view = g.M.Machine.view in
    let poured = c.pour_all-poured.new.self in
    let stopped = c.stop_finished-stopped.new.self in
    let there = c.pour_all-poured.ensures.follows.goes task (c.turn_node-turned.ensures.follows.goes task (c.draw_if_free-drawn.ensures.follows.goes task b)) in
    let node = c.shut_ends-shut.ensures.node in
    subst (λ (n : Node _). IsOver n q) (sym node)
    (stop_port view poured stopped task there (c.stop_finished-stopped.ensures.follows.goes task there) (ap (λ ends. ends.items) c.stop_finished-stopped.ensures.outs) c.stop_finished-stopped.ensures.stops q d
    (subst (λ (n : Node _). q < outputs_of n) node lt) (subst (λ ends. (slice_index_or ends.items q d).done ≡ true) c.shut_ends-shut.ensures.outs done))

pub returns-clause-shut : goal.returns-clause-shut
returns-clause-shut g c task b p lt done =
    let view = g.M.Machine.view in
    let stopped = c.stop_finished-stopped.new.self in
    let there = c.stop_finished-stopped.ensures.follows.goes task (c.pour_all-poured.ensures.follows.goes task (c.turn_node-turned.ensures.follows.goes task (c.draw_if_free-drawn.ensures.follows.goes task b))) in
    let node = c.shut_ends-shut.ensures.node in
    shut_port view stopped task there c.shut_ends-shut.new.self.ins.items c.shut_ends-shut.ensures.shut p (subst (λ (n : Node _). p < inputs_of n) node lt) (subst (λ (n : Node _). HasFinished n p) node done)
