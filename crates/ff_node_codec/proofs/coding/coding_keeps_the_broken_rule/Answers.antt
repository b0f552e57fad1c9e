use Rattle.ff_stream.specs.Ports.{stream_at}
use Rattle.ff_node_codec.specs.laws.CodingLaws.{made_keeps_broken_rule, always_keeps_broken_rule, left_keeps_broken_rule}
use Rattle.ff_node_codec.specs.Decoding.{decoded_item}
use Rattle.ff_node_codec.specs.laws.EncodeLaws.{no_damage}
use Rattle.ff_node_codec.specs.Encoding.{encoded_item}
use Rattle.ff_node_codec.proofs.coding.coding_keeps_the_broken_rule.Goals as goal

pub returns-clause-decoding : goal.returns-clause-decoding
returns-clause-decoding c made = made_keeps_broken_rule (decoded_item made)

pub returns-clause-encoding : goal.returns-clause-encoding
returns-clause-encoding c made = always_keeps_broken_rule (encoded_item made) (λ ss. no_damage made (stream_at ss 0).items)

pub returns-clause-cut_decoding : goal.returns-clause-cut_decoding
returns-clause-cut_decoding c head made k = left_keeps_broken_rule head made k
