use Rattle.std.proofs.Common.{arith}
use Rattle.ff_filter.proofs.Taking.{none_closes-to}
use Rattle.ff_node_sync.proofs.side.Side.keep.Goals as goal

pub invariant_of-self : goal.invariant_of-self
invariant_of-self c =
    let s = c.args.self.now in
    record {
      unclosed = none_closes-to s.queue.items c.push_back_reserved.new.self.items c.args.item c.push_back_reserved.ensures.items s.unclosed c.requires.goes_on;
      near = let old = s.near in let end = c.end_ticks.ensures.near in omega (arith, old, end, c.later-self.ensures);
    }
