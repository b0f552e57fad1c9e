use Rattle.ff_graph_dag.proofs.WiringLemmas.Bounding.{drawn_limited}
use Rattle.ff_graph_dag.proofs.wiring.laws.drawn_plans_are_limited.Goals as goal

pub returns : goal.returns
returns c sources order counts opens outs p ss ins lanes leaving cs d w t size fits new leave l =
    drawn_limited sources order counts opens outs d p w t ss size fits new ins lanes leaving cs leave l
