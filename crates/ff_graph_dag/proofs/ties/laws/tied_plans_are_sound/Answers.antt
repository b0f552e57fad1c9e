use Rattle.ff_graph_dag.proofs.TiesLemmas.Tying.{tied_sound}
use Rattle.ff_graph_dag.proofs.ties.laws.tied_plans_are_sound.Goals as goal

pub returns : goal.returns
returns c p ss t size fits new = tied_sound p t ss size fits new
