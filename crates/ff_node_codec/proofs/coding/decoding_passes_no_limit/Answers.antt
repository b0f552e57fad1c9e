use Rattle.ff_frame.specs.declared.head.StreamHead.{StreamHead}
use Rattle.ff_stream.specs.declared.item.Lane.TheVariants.{Frames, Packets}
use Rattle.ff_stream.specs.Lanes.{IsValid}
use Rattle.ff_stream.specs.laws.WithinLaws.{valid_within}
use Rattle.ff_net.specs.Ways.{Flow}
use Rattle.ff_node_codec.specs.laws.codecs.ChoiceLaws.{IsTakenOf, choice_decoded}
use Rattle.ff_node_codec.specs.codecs.Choices.{CanDecode, frame_made}
use Rattle.ff_time.specs.declared.cut.TimeCut.{TimeCut}
use Rattle.ff_trim.specs.Cuts.{cut}
use Rattle.ff_trim.proofs.Valid.{cut_valid}
use Rattle.ff_node_codec.specs.Decoding.{decoded_item, decoded}
use Rattle.ff_node_codec.specs.laws.DecodeLaws.{decoding_carries}
use Rattle.ff_node_codec.specs.laws.MakingLaws.{made_valid}
use Rattle.ff_node_codec.proofs.coding.decoding_passes_no_limit.Goals as goal

valid_frames : (head : StreamHead) (packets : Flow) → CanDecode head → IsValid (Packets head) packets
    → IsValid (Frames head) (decoded (frame_made head) packets)
valid_frames head packets c v =
    made_valid (Packets head) (Frames head) (decoded_item (frame_made head))
    (decoding_carries head (IsTakenOf head) (frame_made head) (λ p fits. choice_decoded head p c fits)) packets v

pub returns-clause-valid : goal.returns-clause-valid
returns-clause-valid c head packets can v = valid_frames head packets can v

pub returns-clause-within_limits : goal.returns-clause-within_limits
returns-clause-within_limits c head packets can v = valid_within (Frames head) (decoded (frame_made head) packets) (valid_frames head packets can v)

valid_cut : (head : StreamHead) (c : TimeCut) (packets : Flow) → CanDecode head → IsValid (Packets head) packets
    → IsValid (Frames head) (cut head c (decoded (frame_made head) packets))
valid_cut head c packets can v = (cut_valid head c).valid (decoded (frame_made head) packets) (valid_frames head packets can v)

pub returns-clause-cut_valid : goal.returns-clause-cut_valid
returns-clause-cut_valid c head k packets can v = valid_cut head k packets can v

pub returns-clause-cut_within_limits : goal.returns-clause-cut_within_limits
returns-clause-cut_within_limits c head k packets can v =
    valid_within (Frames head) (cut head k (decoded (frame_made head) packets)) (valid_cut head k packets can v)
