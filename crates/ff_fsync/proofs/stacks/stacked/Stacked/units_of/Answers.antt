use Rattle.std.proofs.Common.{◌∙◌, sym, arith}
use Rattle.ff_fsync.proofs.StacksLemmas.Telling.{units_there, units_none}
use Rattle.ff_fsync.proofs.stacks.stacked.Stacked.units_of.Goals as goal

pub returns-then-port-len : goal.returns-then-port-len
returns-then-port-len c =
    let m = c.args.self.now in
    c.index.ensures ∙ units_there m.units.items c.args.port _ (omega (arith, c.if-port-len.true, c.len.ensures, m.units.ok.0))

pub returns-else-port-len : goal.returns-else-port-len
returns-else-port-len c =
    let m = c.args.self.now in
    sym (units_none m.units.items c.args.port (omega (arith, c.if-port-len.false, c.len.ensures, m.units.ok.0)))
