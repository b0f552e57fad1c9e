use Rattle.std.proofs.Common.{sym, ◌∙◌}
use Rattle.ff_net.proofs.Granting.{longer_join, still_join, tells_join}
use Rattle.ff_net.proofs.Moments.{pass_then}
use Rattle.ff_net.proofs.Rounds.{or_false}
use Rattle.ff_net.proofs.node.Node.tell_all.Goals as goal

pub loop-passed-init : goal.loop-passed-init
loop-passed-init g c =
    let e = c.tell_one-told.ensures in record {
      cell = record { pass = e.passes.cell ∙ c.requires.cell.pass; source = λ s is. c.requires.cell.source s (sym e.source ∙ is) };
      stepped = e.stepped;
      outs = e.outs;
      ins = e.ins;
      sound = e.sound;
      source = e.source;
      passes = e.passes;
      tickets = e.tickets;
      longer = e.longer;
      still = e.still;
      ended = e.told;
    }

pub loop-passed-preserved : goal.loop-passed-preserved
loop-passed-preserved g c =
    let first = c.args.self.now in
    let before = c.loop-passed.self in
    let after = c.tell_one-one.new.self in
    let e = c.tell_one-one.ensures in
    let i = c.loop-passed.invariant in
    let told = c.loop-passed.told in
    let one = c.tell_one-one.result in record {
      cell = record { pass = e.passes.cell ∙ i.cell.pass; source = λ s is. i.cell.source s (sym e.source ∙ is) };
      stepped = λ wires. tells_join g.M.Machine.view first before after wires (i.stepped wires) (e.stepped wires);
      outs = e.outs ∙ i.outs;
      ins = e.ins ∙ i.ins;
      sound = λ s. i.sound (e.sound s);
      source = e.source ∙ i.source;
      passes = pass_then _ _ _ i.passes e.passes;
      tickets = e.tickets ∙ i.tickets;
      longer = longer_join told one first.pass before.pass after.pass i.longer i.still e.passes e.longer;
      still = still_join told one first.pass before.pass after.pass i.still e.still;
      ended = λ n. e.told ((or_false told one n).1);
    }

pub returns-clause-stepped : goal.returns-clause-stepped
returns-clause-stepped g c wires = tells_join g.M.Machine.view c.args.self.now c.loop-passed.self c.tell_one-last.new.self wires (c.loop-passed.invariant.stepped wires) (c.tell_one-last.ensures.stepped wires)

pub returns-clause-passes : goal.returns-clause-passes
returns-clause-passes g c = pass_then _ _ _ c.loop-passed.invariant.passes c.tell_one-last.ensures.passes

pub returns-clause-longer : goal.returns-clause-longer
returns-clause-longer g c =
    let i = c.loop-passed.invariant in
    let e = c.tell_one-last.ensures in
    longer_join c.loop-passed.told c.tell_one-last.result c.args.self.now.pass c.loop-passed.self.pass c.tell_one-last.new.self.pass i.longer i.still e.passes e.longer

pub returns-clause-still : goal.returns-clause-still
returns-clause-still g c = still_join c.loop-passed.told c.tell_one-last.result c.args.self.now.pass c.loop-passed.self.pass c.tell_one-last.new.self.pass c.loop-passed.invariant.still c.tell_one-last.ensures.still

pub returns-clause-told : goal.returns-clause-told
returns-clause-told g c n = c.tell_one-last.ensures.told ((or_false c.loop-passed.told c.tell_one-last.result n).1)
