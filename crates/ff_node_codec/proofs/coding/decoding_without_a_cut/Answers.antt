use Rattle.std.proofs.Common.{◌∙◌, ap}
use Rattle.ff_stream.specs.Ports.{stream_at}
use Rattle.ff_trim.specs.Cuts.{cut}
use Rattle.ff_node_codec.specs.laws.CodingLaws.{uncut_is, uncut_damage}
use Rattle.ff_node_codec.specs.Decoding.{decoded}
use Rattle.ff_node_codec.specs.Making.{fault_by}
use Rattle.ff_node_codec.specs.laws.SpreadLaws.{at_replicate}
use Rattle.ff_node_codec.proofs.coding.decoding_without_a_cut.Goals as goal

pub returns-clause-stream : goal.returns-clause-stream
returns-clause-stream c head made k outputs q ss start length lt =
    at_replicate outputs q (cut head k (decoded made (stream_at ss 0))) lt ∙ uncut_is head k (decoded made (stream_at ss 0)) start length

pub returns-clause-fault : goal.returns-clause-fault
returns-clause-fault c head made k outputs ss start length = ap fault_by (uncut_damage head made k (stream_at ss 0) start length)
