use Rattle.ff_node_mux.specs.laws.merge.Ordered.{has_each}
use Rattle.ff_node_mux.proofs.merge.laws.a_merge_has_each_stream.Goals as goal

pub returns : goal.returns
returns c base n q ss lt = has_each base n q ss lt
