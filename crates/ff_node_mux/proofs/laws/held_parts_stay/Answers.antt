use Rattle.ff_node_mux.specs.laws.Held.{held_parts_stay}
use Rattle.ff_node_mux.proofs.laws.held_parts_stay.Goals as goal

pub returns : goal.returns
returns c = held_parts_stay
