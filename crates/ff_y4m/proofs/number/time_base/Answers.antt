use Rattle.std.proofs.Common.{rules}
use Rattle.ff_y4m.proofs.number.time_base.Goals as goal

pub returns : goal.returns
returns c = c.fraction.ensures c.args.num c.args.den (search rules) (search rules)
