use Rattle.ff_graph_dag.proofs.WiringLemmas.Ordering.{solves}
use Rattle.ff_graph_dag.proofs.wiring.laws.filters_in_order_solve.Goals as goal

pub returns : goal.returns
returns c order sources opens ext vs forward size os ss = solves order sources forward opens os ss ext vs size
