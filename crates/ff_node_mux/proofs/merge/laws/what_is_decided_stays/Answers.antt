use Rattle.ff_node_mux.specs.laws.merge.Ordered.{stays}
use Rattle.ff_node_mux.proofs.merge.laws.what_is_decided_stays.Goals as goal

pub returns : goal.returns
returns c base n rs ss h = stays base n rs ss h
