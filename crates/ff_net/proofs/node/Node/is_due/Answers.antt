use Rattle.std.proofs.Common.{true, sym, ◌∙◌, inl, inr}
use Rattle.ff_net.specs.laws.Steps.{Fills}
use Rattle.ff_net.proofs.Acting.{none_if_not_some, some_is_faulty}
use Rattle.ff_net.proofs.Moments.{stepped_as}
use Rattle.ff_net.proofs.PortSteps.{out_ports_count}
use Rattle.ff_net.proofs.Changes.{true_not_false}
use Rattle.ff_net.proofs.Readying.{none_before}
use Rattle.ff_net.specs.laws.Worlds.{lanes_of}
use Rattle.ff_net.proofs.node.Node.is_due.Goals as goal

pub fill_all-held-requires : goal.fill_all-held-requires
fill_all-held-requires g c =
    let s = c.requires.shaped in
    record { outputs = out_ports_count c.args.self.now.outs.items _ (lanes_of s.0) s.1.outs }

pub returns-then-held : goal.returns-then-held
returns-then-held g c =
    let view = g.M.Machine.view in
    let e = c.fill_all-held.ensures in record {
      pass = e.pass;
      due = λ yes. inl (e.held c.if-held.true);
      stepped = λ wires. stepped_as view _ (Fills view true c.args.self.now) c.args.self.now wires c.fill_all-held.new.self wires
          (λ a p b q x f. record { sent = f.sent; taken = f.taken; finished = f.finished; allowed = f.allowed; stopped = f.stopped; none_before = λ no. absurd (true_not_false no) }) (e.stepped wires);
    }

pub returns : goal.returns
returns g c =
    let view = g.M.Machine.view in
    let before = c.args.self.now in
    let filled = c.fill_all-held.new.self in
    let e = c.fill_all-held.ensures in record {
      pass = e.pass;
      due = λ yes. inr (λ ok. some_is_faulty c.fault.result (sym c.is_some.ensures ∙ yes) (c.fault.ensures.none ok));
      stepped = λ wires. stepped_as view _ (Fills view c.is_some.result before) before wires filled wires
          (λ a p b q x f. record {
            sent = f.sent;
            taken = f.taken;
            finished = f.finished;
            allowed = f.allowed;
            stopped = f.stopped;
            none_before = λ no k d. none_before view before filled c.fill_all-held.result a b p q e.sound e.count (e.stepped wires).outs_same e.done (e.none c.if-held.false) f (c.fault.ensures.sound (none_if_not_some c.fault.result (sym c.is_some.ensures ∙ no))) k d;
          }) (e.stepped wires);
    }
