use Rattle.ff_node_mux.specs.laws.merge.Alike.{interleaved_one}
use Rattle.ff_node_mux.proofs.merge.laws.one_stream_is_its_packets.Goals as goal

pub returns : goal.returns
returns c base ss = interleaved_one base ss
