use Rattle.std.proofs.Common.{refl, sym, ◌∙◌, inl, inr}
use Rattle.ff_net.specs.laws.Nodes.{IsSound}
use Rattle.ff_net.specs.laws.Steps.{Prepares}
use Rattle.ff_net.specs.laws.Worlds.{lanes_of}
use Rattle.ff_net.proofs.Acting.{unmoved, as_turn, turn_after, none_if_not_some, some_is_faulty}
use Rattle.ff_net.proofs.Changes.{true_not_false}
use Rattle.ff_net.proofs.Moments.{stepped_as}
use Rattle.ff_net.proofs.Granting.{once_between, same_tickets}
use Rattle.ff_net.proofs.PortSteps.{out_ports_count}
use Rattle.ff_net.proofs.node.Node.act.Goals as goal

pub ready-ready-requires : goal.ready-ready-requires
ready-ready-requires g c = record { outputs = out_ports_count c.args.self.now.outs.items _ (lanes_of c.args.wires.now) c.requires.shaped.outs; cell = c.requires.cell }

pub returns-then-is_some-clause-stepped : goal.returns-then-is_some-clause-stepped
returns-then-is_some-clause-stepped g c =
    let view = g.M.Machine.view in
    let node = c.args.self.now in
    unmoved view c.args.may_take node c.args.wires.now (λ ok. some_is_faulty c.fault.result (sym c.is_some.ensures ∙ c.if-is_some.true) (c.fault.ensures.none ok))

pub returns-then-is_some-2-clause-stepped : goal.returns-then-is_some-2-clause-stepped
returns-then-is_some-2-clause-stepped g c =
    let view = g.M.Machine.view in
    let wires = c.args.wires.now in
    stepped_as view _ _ c.args.self.now wires c.ready-ready.new.self wires (λ a p b q x f. as_turn view c.args.may_take c.ready-ready.result.granted c.ready-ready.result.due c.args.self.now c.ready-ready.new.self a p b q f) (c.ready-ready.ensures.stepped wires)

pub returns-then-ready-clause-stepped : goal.returns-then-ready-clause-stepped
returns-then-ready-clause-stepped g c =
    let view = g.M.Machine.view in
    let before = c.args.self.now in
    let granted = c.ready-ready.result.granted in
    let held = c.ready-ready.result.due in
    let after = c.ready-ready.new.self in
    turn_after view (Prepares view c.args.may_take granted held before after) c.args.may_take granted (Unit {0}) before after c.send_all-sent.new.self c.args.wires.now c.args.wires.now c.send_all-sent.new.wires (c.ready-ready.ensures.stepped c.args.wires.now) (as_turn view c.args.may_take granted held before after) (λ a p b q r d. tt) c.send_all-sent.ensures.pass c.send_all-sent.result c.send_all-sent.ensures.stepped c.send_all-sent.ensures.same

pub returns-clause-stepped : goal.returns-clause-stepped
returns-clause-stepped g c =
    let view = g.M.Machine.view in
    let before = c.args.self.now in
    let granted = c.ready-ready.result.granted in
    let held = c.ready-ready.result.due in
    let after = c.ready-ready.new.self in
    let ok : IsSound view after = c.fault-2.ensures.sound (none_if_not_some c.fault-2.result (sym c.is_some-2.ensures ∙ c.if-is_some-2.false)) in
    turn_after view (Prepares view c.args.may_take granted held before after) c.args.may_take granted ⊥ before after c.take_all-took.new.self c.args.wires.now c.args.wires.now c.take_all-took.new.wires (c.ready-ready.ensures.stepped c.args.wires.now) (as_turn view c.args.may_take granted held before after) (λ a p b q r d. elim d [ inl kept ↦ true_not_false (sym c.if-not-may_take.false ∙ kept) | inr one ↦ r.none_before ok c.if-ready.false one.0 one.1 ]) c.take_all-took.ensures.pass c.take_all-took.result c.take_all-took.ensures.stepped c.take_all-took.ensures.same

pub returns-then-ready-clause-once : goal.returns-then-ready-clause-once
returns-then-ready-clause-once g c =
    let before = c.args.self.now.pass in
    let after = c.ready-ready.new.self.pass in
    let last = c.send_all-sent.new.self.pass in
    once_between before.log before.log after.log last.log refl (same_tickets after last c.send_all-sent.ensures.pass) c.ready-ready.ensures.once

pub returns-clause-once : goal.returns-clause-once
returns-clause-once g c =
    let before = c.args.self.now.pass in
    let after = c.ready-ready.new.self.pass in
    let last = c.take_all-took.new.self.pass in
    once_between before.log before.log after.log last.log refl (same_tickets after last c.take_all-took.ensures.pass) c.ready-ready.ensures.once

pub returns-then-not-may_take-clause-stepped : goal.returns-then-not-may_take-clause-stepped
returns-then-not-may_take-clause-stepped g c =
    let view = g.M.Machine.view in
    let wires = c.args.wires.now in
    stepped_as view _ _ c.args.self.now wires c.ready-ready.new.self wires (λ a p b q x f. as_turn view c.args.may_take c.ready-ready.result.granted c.ready-ready.result.due c.args.self.now c.ready-ready.new.self a p b q f) (c.ready-ready.ensures.stepped wires)

pub returns-then-ready-clause-held_back : goal.returns-then-ready-clause-held_back
returns-then-ready-clause-held_back g c kept = same_tickets c.ready-ready.new.self.pass c.send_all-sent.new.self.pass c.send_all-sent.ensures.pass ∙ c.ready-ready.ensures.held_back kept

pub returns-clause-held_back : goal.returns-clause-held_back
returns-clause-held_back g c kept = same_tickets c.ready-ready.new.self.pass c.take_all-took.new.self.pass c.take_all-took.ensures.pass ∙ c.ready-ready.ensures.held_back kept
