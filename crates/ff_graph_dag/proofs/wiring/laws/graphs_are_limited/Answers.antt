use Rattle.ff_graph_dag.proofs.WiringLemmas.LimitedGraphs.{graph_limited}
use Rattle.ff_graph_dag.proofs.wiring.laws.graphs_are_limited.Goals as goal

pub returns : goal.returns
returns c sources opens ins lanes outs os ks vs cs leave l = graph_limited sources opens ins lanes outs os leave ks vs cs l
