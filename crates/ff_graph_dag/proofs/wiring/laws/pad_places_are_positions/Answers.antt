use Rattle.ff_graph_dag.proofs.WiringLemmas.Places.{positions}
use Rattle.ff_graph_dag.proofs.wiring.laws.pad_places_are_positions.Goals as goal

pub returns : goal.returns
returns c pads p = positions p pads
