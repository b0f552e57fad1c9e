use Rattle.ff_node_mux.proofs.Ones.{mixed_one}
use Rattle.ff_node_mux.proofs.laws.one_stream_is_written_as_it_is.Goals as goal

pub returns : goal.returns
returns c = mixed_one
