use Rattle.ff_graph_dag.proofs.WiringLemmas.Forward.{forward, all_come}
use Rattle.ff_graph_dag.proofs.wiring.laws.orders_go_forward.Goals as goal

pub returns-clause-forward : goal.returns-clause-forward
returns-clause-forward c feeders sources order o fed = forward feeders sources fed order o

pub returns-clause-all : goal.returns-clause-all
returns-clause-all c feeders order f o lt = all_come feeders order o f lt
