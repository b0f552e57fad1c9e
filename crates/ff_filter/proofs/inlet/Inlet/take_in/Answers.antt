use Rattle.std.proofs.Common.{sym, ◌∙◌}
use Rattle.ff_filter.proofs.Stepping.{closing-none}
use Rattle.ff_filter.proofs.Taking.{put_in, none_closes-to}
use Rattle.ff_filter.proofs.inlet.Inlet.take_in.Goals as goal

pub invariant_of-self-in-None : goal.invariant_of-self-in-None
invariant_of-self-in-None c = record { unclosed = none_closes-to c.args.self.now.queue.items c.push_back_reserved.new.self.items c.args.item c.push_back_reserved.ensures.items c.args.self.now.unclosed (closing-none c.args.item (sym c.closing_of.ensures ∙ c.in-None.is)) }

pub returns-in-None-clause-taken : goal.returns-in-None-clause-taken
returns-in-None-clause-taken c = put_in c.args.self.now.queue.items c.push_back_reserved.new.self.items c.args.self.now.after c.args.item c.requires.open c.push_back_reserved.ensures.items
