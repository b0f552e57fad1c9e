use Rattle.std.proofs.Common.{arith, ◌∙◌}
use Rattle.ff_flac_subframe.proofs.RiceLemmas.Sums.{lanes_sum, lanes_small}
use Rattle.ff_flac_subframe.proofs.rice.quotients.total_of.Goals as goal

pub sum_of-requires : goal.sum_of-requires
sum_of-requires c = lanes_small 0 c.args.most c.args.part.now c.lanes_at.result c.lanes_at.ensures (omega arith) c.requires.most (omega arith)

pub returns-then-most-lt268435456 : goal.returns-then-most-lt268435456
returns-then-most-lt268435456 c = c.sum_of.ensures ∙ lanes_sum 0 c.args.part.now c.lanes_at.result c.lanes_at.ensures
