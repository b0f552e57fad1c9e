use Rattle.std.proofs.Common.{List, refl, inl, inr, ◌||◌, sym, ◌∙◌, ap, subst}
use Rattle.ff_net.specs.declared.wires.Wires.{Wires}
use Rattle.ff_net.specs.declared.ports.InPort.{InPort}
use Rattle.ff_net.specs.laws.Nodes.{IsSound}
use Rattle.ff_net.specs.laws.Ports.{AreFinished}
use Rattle.ff_net.specs.laws.Steps.{Turns}
use Rattle.ff_net.specs.laws.Turns.{Waits}
use Rattle.ff_net.proofs.Acting.{turn_after}
use Rattle.ff_net.proofs.Granting.{of_later, once_between, same_tickets, sound_or}
use Rattle.ff_net.proofs.Idling.{waits_same, waits_told}
use Rattle.ff_net.proofs.Rounds.{or_false, shaped_later}
use Rattle.ff_net.proofs.Turning.{turn_told}
use Rattle.ff_net.proofs.node.Node.work.Goals as goal

pub tell_all-told-requires : goal.tell_all-told-requires
tell_all-told-requires g c = record { cell = of_later g.M.Machine.view _ _ c.args.self.now c.args.wires.now c.act-acted.new.self c.act-acted.new.wires c.act-acted.ensures.stepped c.requires.cell }

pub break_faulty-broke-requires : goal.break_faulty-broke-requires
break_faulty-broke-requires g c =
    let view = g.M.Machine.view in
    let mid = c.act-acted.new.self in
    let wires = c.act-acted.new.wires in
    record { shaped = shaped_later view _ mid wires c.tell_all-told.new.self wires (c.tell_all-told.ensures.stepped wires) (shaped_later view _ c.args.self.now c.args.wires.now mid wires c.act-acted.ensures.stepped c.requires.shaped) }

pub returns-clause-stepped : goal.returns-clause-stepped
returns-clause-stepped g c =
    let view = g.M.Machine.view in
    let before = c.args.self.now in
    let mid = c.act-acted.new.self in
    let told = c.tell_all-told.new.self in
    let last = c.break_faulty-broke.new.self in
    let wires = c.act-acted.new.wires in
    let t = c.tell_all-told.ensures in
    let b = c.break_faulty-broke.ensures in
    let worked = c.act-acted.result || c.tell_all-told.result in
    let first = turn_told view c.args.may_take c.act-acted.result c.tell_all-told.result before mid told c.args.wires.now wires c.act-acted.ensures.stepped (t.stepped wires) (ap (λ os. os.items) t.outs) t.sound t.tickets t.longer t.still in
    turn_after view (Turns view c.args.may_take worked before told) c.args.may_take worked (Unit {0}) before told last c.args.wires.now wires c.break_faulty-broke.new.wires first (λ x p y q h. h) (λ x p y q h d. tt) b.pass c.break_faulty-broke.result b.stepped b.same

pub returns-clause-waits : goal.returns-clause-waits
returns-clause-waits g c still =
    let view = g.M.Machine.view in
    let mid = c.act-acted.new.self in
    let told = c.tell_all-told.new.self in
    let last = c.break_faulty-broke.new.self in
    let wires = c.act-acted.new.wires in
    let t = c.tell_all-told.ensures in
    let b = c.break_faulty-broke.ensures in
    let n = or_false (c.act-acted.result || c.tell_all-told.result) c.break_faulty-broke.result still in
    let m = or_false c.act-acted.result c.tell_all-told.result n.0 in
    let same = b.same n.1 in
    elim (sound_or view last) [
      | inl ok ↦
          let fine : IsSound view told = (sym same.0.refused ∙ ok.0, ap (λ x. (view x).fault) (sym same.0.machine) ∙ ok.1) in
          let before : Waits view c.args.may_take told wires = waits_told view c.args.may_take mid told wires (ap (λ os. os.items) t.outs) (ap (λ is. is.items) t.ins) (t.sound fine) fine (c.act-acted.ensures.waits m.0 (t.sound fine)) in
          subst (λ (w : Wires). Waits view c.args.may_take last w) (sym same.1) (waits_same view c.args.may_take told last wires same.0 before)
      | inr faulty ↦ b.waits n.1 faulty c.args.may_take
    ]

pub returns-clause-told : goal.returns-clause-told
returns-clause-told g c still all =
    let n = or_false (c.act-acted.result || c.tell_all-told.result) c.break_faulty-broke.result still in
    let m = or_false c.act-acted.result c.tell_all-told.result n.0 in
    let same = (c.break_faulty-broke.ensures.same n.1).0 in
    elim (c.tell_all-told.ensures.told m.1 (subst (λ (is : List InPort). AreFinished is) same.ins all)) [ inl q ↦ inl (same.quiet ∙ q) | inr r ↦ inr (same.refused ∙ r) ]

pub returns-clause-once : goal.returns-clause-once
returns-clause-once g c =
    let before = c.args.self.now.pass in
    let acted = c.act-acted.new.self.pass in
    let told = c.tell_all-told.new.self.pass in
    let last = c.break_faulty-broke.new.self.pass in
    once_between before.log before.log acted.log last.log refl (same_tickets told last c.break_faulty-broke.ensures.pass ∙ c.tell_all-told.ensures.tickets) c.act-acted.ensures.once

pub returns-clause-held_back : goal.returns-clause-held_back
returns-clause-held_back g c kept =
    let told = c.tell_all-told.new.self.pass in
    same_tickets told c.break_faulty-broke.new.self.pass c.break_faulty-broke.ensures.pass ∙ (c.tell_all-told.ensures.tickets ∙ c.act-acted.ensures.held_back kept)
