use Rattle.std.proofs.Common.{arith}
use Rattle.ff_concat.proofs.Startings.{empty_more}
use Rattle.ff_concat.proofs.starting.backlogs_of.Goals as goal

pub segments-preserved : goal.segments-preserved
segments-preserved c =
    let new = empty_more c.segments.k c.segments.backlogs.items c.push_reserved.new.self.items c.new.result c.new.ensures.none c.new.ensures.least
    c.segments.invariant.new c.push_reserved.ensures.items in
    record { new = new; count = new.count; room = let a = c.segments.invariant.room in let b = c.push_reserved.ensures.capacity in omega (arith, a, b) }
