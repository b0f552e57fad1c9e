use Rattle.ff_graph_dag.proofs.WiringLemmas.Drawn.{drawn_means}
use Rattle.ff_graph_dag.proofs.wiring.laws.drawn_plans_mean.Goals as goal

pub returns : goal.returns
returns c sources order counts opens outs p ss ext q out d w t size fits new e = drawn_means sources order counts opens outs d p w t ss size fits new ext q out e
