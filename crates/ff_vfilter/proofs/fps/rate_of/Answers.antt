use Rattle.ff_vfilter.proofs.RateStart.{rate_starts}
use Rattle.ff_vfilter.proofs.fps.rate_of.Goals as goal

pub returns : goal.returns
returns c = rate_starts c.args.head.now c.with_base.result c.time_base.result c.args.base c.new.result.queue.items c.new.result.after c.with_base.ensures c.time_base.ensures c.new.ensures.queue c.new.ensures.after
