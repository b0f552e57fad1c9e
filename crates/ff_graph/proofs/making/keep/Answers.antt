use Rattle.ff_graph.proofs.Behind.{heads-set}
use Rattle.ff_graph.proofs.making.keep.Goals as goal

pub returns-clause-heads : goal.returns-clause-heads
returns-clause-heads c = heads-set c.args.heads.now c.args.filter c.args.made.1
