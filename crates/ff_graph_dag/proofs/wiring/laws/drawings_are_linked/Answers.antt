use Rattle.ff_graph_dag.proofs.WiringLemmas.Linking.{linked}
use Rattle.ff_graph_dag.proofs.wiring.laws.drawings_are_linked.Goals as goal

pub returns : goal.returns
returns c sources order counts opens outs d = linked sources order counts opens outs d
