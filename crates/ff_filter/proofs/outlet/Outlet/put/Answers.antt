use Rattle.ff_filter.proofs.Taking.{none_closes-to}
use Rattle.ff_filter.proofs.outlet.Outlet.put.Goals as goal

pub invariant_of-self : goal.invariant_of-self
invariant_of-self c = record { unclosed = none_closes-to c.args.self.now.queue.items c.push_back_reserved.new.self.items c.args.item c.push_back_reserved.ensures.items c.args.self.now.unclosed c.requires.goes_on }
