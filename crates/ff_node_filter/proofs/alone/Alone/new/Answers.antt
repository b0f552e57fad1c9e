use Rattle.std.proofs.Common.{length}
use Rattle.ff_node_filter.specs.laws.StandLaws.{starts}
use Rattle.ff_node_filter.specs.Limiting.{limit_cause, lawful}
use Rattle.ff_node_filter.proofs.alone.Alone.new.Goals as goal

pub returns-clause-stands : goal.returns-clause-stands
returns-clause-stands g c cause l = starts (g.F.Filter.view c.args.filter) cause c.requires.new (g.met.F.Filter.settles c.args.filter) l

pub returns-clause-within_limits : goal.returns-clause-within_limits
returns-clause-within_limits g c cuts l =
    let v = g.F.Filter.view c.args.filter in
    starts v (limit_cause (length v.outs) v.rest cuts) c.requires.new (g.met.F.Filter.settles c.args.filter) (lawful v.ins v.outs v.rest cuts l)
