use Rattle.std.proofs.Common.{List, refl, ◌≡◌, ◌⊎◌, ◌<◌, ℕ, length, inl, inr, true, ◌||◌, sym, ◌∙◌, subst}
use Rattle.ff_net.specs.declared.wires.Wires.{Wires}
use Rattle.ff_net.specs.laws.Worlds.{lanes_of}
use Rattle.ff_net.specs.declared.ports.InPort.{InPort}
use Rattle.ff_net.specs.laws.Nodes.{IsDone}
use Rattle.ff_net.specs.laws.Ports.{AreFinished}
use Rattle.ff_net.specs.laws.Steps.{Turns}
use Rattle.ff_net.specs.laws.Turns.{Waits}
use Rattle.ff_net.proofs.Acting.{turn_after}
use Rattle.ff_net.proofs.Changes.{true_not_false}
use Rattle.ff_stream.specs.Ports.{IsClosed}
use Rattle.ff_net.specs.Ways.{Flow}
use Rattle.ff_net.proofs.Granting.{once_between, same_tickets, sound_or}
use Rattle.ff_net.proofs.PortSteps.{in_ports_count, out_ports_count}
use Rattle.ff_net.proofs.Rounds.{or_false, shaped_later}
use Rattle.ff_net.proofs.Idling.{waits_same, idle_of}
use Rattle.ff_net.proofs.Turning.{turn_answers}
use Rattle.ff_net.proofs.node.Node.turn.Goals as goal

pub close_all-closed-requires : goal.close_all-closed-requires
close_all-closed-requires g c = record { shaped = shaped_later g.M.Machine.view _ c.args.self.now c.args.wires.now c.work-worked.new.self c.work-worked.new.wires c.work-worked.ensures.stepped c.requires.shaped }

pub returns-clause-stepped : goal.returns-clause-stepped
returns-clause-stepped g c =
    let view = g.M.Machine.view in
    let laws = g.met.M.Machine.laws in
    let before = c.args.self.now in
    let mid = c.work-worked.new.self in
    let last = c.close_all-closed.new.self in
    let wires' = c.work-worked.new.wires in
    let wires'' = c.close_all-closed.new.wires in
    let worked = c.work-worked.result in
    let closed = c.close_all-closed.result in
    let e = c.close_all-closed.ensures in
    let w = c.work-worked.ensures in
    let shaped = shaped_later view _ mid wires' last wires'' e.stepped (shaped_later view _ before c.args.wires.now mid wires' w.stepped c.requires.shaped) in
    let all = turn_after view (Turns view c.args.may_take worked before mid) c.args.may_take worked (Unit {0}) before mid last c.args.wires.now wires' wires'' w.stepped (λ x p y q h. h) (λ x p y q h d. tt) e.pass closed e.stepped e.same in
    turn_answers view c.args.may_take (worked || closed) c.turn_of.result before last c.args.wires.now wires'' c.turn_of.ensures.moved (λ n. (c.turn_of.ensures.not_yet n).0)
    (λ n world past was rests.
    let t = c.turn_of.ensures.not_yet n in
    let no = or_false worked closed t.0 in
    let same = e.same no.1 in
    let waits : Waits view c.args.may_take last wires'' = subst (λ (v : Wires). Waits view c.args.may_take last v) (sym same.1) (waits_same view c.args.may_take mid last wires' same.0 (w.waits no.0)) in
    let told : AreFinished last.ins.items → (last.quiet ≡ true) ⊎ (last.refused ≡ true) = λ all. elim (w.told no.0 (subst (λ (is : List InPort). AreFinished is) same.0.ins all)) [ inl q ↦ inl (same.0.quiet ∙ q) | inr r ↦ inr (same.0.refused ∙ r) ] in
    let not_done : IsDone last → ⊥ = λ d. true_not_false (sym (c.is_done.ensures.exact d) ∙ t.1) in
    idle_of view laws before last wires'' world past was c.args.may_take rests (in_ports_count last.ins.items _ (lanes_of wires'') shaped.ins) (out_ports_count last.outs.items _ (lanes_of wires'') shaped.outs) e.faulty told not_done waits)
    all

pub returns-clause-closed : goal.returns-clause-closed
returns-clause-closed g c world past was p lt closed =
    let view = g.M.Machine.view in
    let laws = g.met.M.Machine.laws in
    let mid = c.work-worked.new.self in
    let last = c.close_all-closed.new.self in
    let wires' = c.work-worked.new.wires in
    let wires'' = c.close_all-closed.new.wires in
    let e = c.close_all-closed.ensures in
    let shaped = shaped_later view _ mid wires' last wires'' e.stepped (shaped_later view _ c.args.self.now c.args.wires.now mid wires' c.work-worked.ensures.stepped c.requires.shaped) in
    let count : length last.ins.items ≡ length (view last.machine).in_lanes = in_ports_count last.ins.items _ (lanes_of wires'') shaped.ins in
    elim (sound_or view last) [
      | inl ok ↦ e.spent p lt ((laws last.machine).closed_spent past p was.machine (subst (λ (n : ℕ). p < n) count lt) (subst (λ (s : Flow). IsClosed s) (sym ((was.ins p lt).exact ok.0)) closed))
      | inr faulty ↦ e.faulty faulty p lt
    ]

pub returns-clause-once : goal.returns-clause-once
returns-clause-once g c =
    let before = c.args.self.now.pass in
    let worked = c.work-worked.new.self.pass in
    let last = c.close_all-closed.new.self.pass in
    once_between before.log before.log worked.log last.log refl (same_tickets worked last c.close_all-closed.ensures.pass) c.work-worked.ensures.once

pub returns-clause-held_back : goal.returns-clause-held_back
returns-clause-held_back g c kept = same_tickets c.work-worked.new.self.pass c.close_all-closed.new.self.pass c.close_all-closed.ensures.pass ∙ c.work-worked.ensures.held_back kept
