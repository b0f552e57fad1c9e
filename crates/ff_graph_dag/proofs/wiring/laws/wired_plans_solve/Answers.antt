use Rattle.ff_graph_dag.proofs.WiringLemmas.Meaning.{composed_as}
use Rattle.ff_graph_dag.proofs.wiring.laws.wired_plans_solve.Goals as goal

pub returns : goal.returns
returns c fed counts opens pads p ss ext σ q f l w t size fits new s e = composed_as fed counts opens pads l p w t ss size fits new ext σ s q f e
