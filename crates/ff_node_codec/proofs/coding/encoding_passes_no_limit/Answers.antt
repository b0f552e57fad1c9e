use Rattle.ff_frame.specs.declared.head.StreamHead.{StreamHead}
use Rattle.ff_stream.specs.declared.item.Lane.TheVariants.{Frames, Packets}
use Rattle.ff_stream.specs.Lanes.{IsValid}
use Rattle.ff_stream.specs.laws.WithinLaws.{valid_within}
use Rattle.ff_net.specs.Ways.{Flow}
use Rattle.ff_node_codec.specs.laws.codecs.ChoiceLaws.{IsTakenFor, choice_encoded, choice_times}
use Rattle.ff_node_codec.specs.codecs.Choices.{CanEncode, packet_made}
use Rattle.ff_node_codec.specs.Encoding.{encoded_item, encoded}
use Rattle.ff_node_codec.specs.laws.EncodeLaws.{encoding_carries}
use Rattle.ff_node_codec.specs.laws.MakingLaws.{made_valid}
use Rattle.ff_node_codec.proofs.coding.encoding_passes_no_limit.Goals as goal

valid_packets : (head coded : StreamHead) (frames : Flow) → CanEncode head coded → IsValid (Frames head) frames
    → IsValid (Packets coded) (encoded (packet_made coded) frames)
valid_packets head coded frames c v =
    made_valid (Frames head) (Packets coded) (encoded_item (packet_made coded))
    (encoding_carries head coded (IsTakenFor coded) (packet_made coded) (choice_times head coded c) (λ x fits. choice_encoded head coded x c fits)) frames v

pub returns-clause-valid : goal.returns-clause-valid
returns-clause-valid c head coded frames can v = valid_packets head coded frames can v

pub returns-clause-within_limits : goal.returns-clause-within_limits
returns-clause-within_limits c head coded frames can v =
    valid_within (Packets coded) (encoded (packet_made coded) frames) (valid_packets head coded frames can v)
