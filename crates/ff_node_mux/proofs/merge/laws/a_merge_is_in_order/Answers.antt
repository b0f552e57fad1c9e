use Rattle.ff_node_mux.specs.laws.merge.Ordered.{in_order}
use Rattle.ff_node_mux.proofs.merge.laws.a_merge_is_in_order.Goals as goal

pub returns : goal.returns
returns c base n ss h = in_order base n ss h
