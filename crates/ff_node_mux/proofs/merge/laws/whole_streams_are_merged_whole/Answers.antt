use Rattle.ff_node_mux.specs.laws.merge.Ordered.{all_whole}
use Rattle.ff_node_mux.proofs.merge.laws.whole_streams_are_merged_whole.Goals as goal

pub returns : goal.returns
returns c base n ss h = all_whole base n ss h
