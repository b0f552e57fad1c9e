use Rattle.ff_graph.proofs.ComposedLemmas.Ends.{written_has}
use Rattle.ff_graph.proofs.composed.laws.written_graphs_have_filters.Goals as goal

pub returns : goal.returns
returns c = written_has
