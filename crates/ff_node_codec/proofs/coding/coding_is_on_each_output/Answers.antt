use Rattle.ff_stream.specs.Ports.{stream_at}
use Rattle.ff_trim.specs.Cuts.{cut}
use Rattle.ff_node_codec.specs.Decoding.{decoded}
use Rattle.ff_node_codec.specs.laws.SpreadLaws.{at_replicate}
use Rattle.ff_node_codec.proofs.coding.coding_is_on_each_output.Goals as goal

pub returns-clause-decoding : goal.returns-clause-decoding
returns-clause-decoding c head made k outputs q ss lt = at_replicate outputs q (cut head k (decoded made (stream_at ss 0))) lt
