use Rattle.std.proofs.Common.{rules}
use Rattle.ff_node_flac.proofs.queue.Queue.cut_all.Goals as goal

pub returns-in_err-cut_one-clause-still : goal.returns-in_err-cut_one-clause-still
returns-in_err-cut_one-clause-still c fed done g = c.cut_one.ensures.still fed done (c.loop-turn.invariant.still fed done g)

pub returns-then-not-branch-clause-still : goal.returns-then-not-branch-clause-still
returns-then-not-branch-clause-still c fed done g = c.cut_one.ensures.still fed done (c.loop-turn.invariant.still fed done g)

pub loop-turn-preserved : goal.loop-turn-preserved
loop-turn-preserved c = record {
  still = λ fed done g. c.cut_one.ensures.still fed done (c.loop-turn.invariant.still fed done g);
  count = search rules;
  ended = search rules;
  format = search rules;
  codes = search rules;
}
