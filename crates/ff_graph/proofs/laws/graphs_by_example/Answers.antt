use Rattle.std.proofs.Common.{refl}
use Rattle.ff_fsync.specs.stacks.CommonBases.{common_of}
use Rattle.ff_graph.proofs.laws.graphs_by_example.Goals as goal

pub returns-clause-stacked : goal.returns-clause-stacked
unfolding common_of
returns-clause-stacked c = refl

pub returns-clause-crowded : goal.returns-clause-crowded
unfolding common_of
returns-clause-crowded c = refl
