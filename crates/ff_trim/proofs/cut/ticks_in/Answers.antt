use Rattle.ff_trim.proofs.Ticking.{ceiling_is}
use Rattle.ff_trim.proofs.cut.ticks_in.Goals as goal

pub returns-clause-is : goal.returns-clause-is
returns-clause-is c = cc (ceiling_is c.args.us c.time_base.result c.ceiling.result c.ceiling.ensures.is, c.time_base.ensures)
