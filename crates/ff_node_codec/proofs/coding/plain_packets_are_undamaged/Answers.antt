use Rattle.std.proofs.Common.{refl}
use Rattle.std.specs.Option.{IsSome}
use Rattle.ff_frame.specs.declared.packet.Pkt.{Pkt}
use Rattle.ff_frame.specs.declared.head.StreamHead.{StreamHead}
use Rattle.ff_frame.specs.declared.head.StreamHead.TheVariants.{Audio as AudioHead, Video as VideoHead}
use Rattle.ff_node_codec.specs.codecs.Decoding.{pcm_frame, raw_frame, IsPictureHead}
use Rattle.ff_node_codec.specs.laws.CodingLaws.{never_damaged}
use Rattle.ff_node_codec.proofs.coding.plain_packets_are_undamaged.Goals as goal

has_frame : (head : StreamHead) → IsPictureHead head → (p : Pkt) → IsSome (raw_frame head p)
has_frame (AudioHead tb rate bits channels codec) h p = absurd h
has_frame (VideoHead tb format width height sar_num sar_den) h p = refl

pub returns-clause-pcm : goal.returns-clause-pcm
returns-clause-pcm c head items = never_damaged (pcm_frame head) (λ p. refl) items

pub returns-clause-raw : goal.returns-clause-raw
returns-clause-raw c head items h = never_damaged (raw_frame head) (has_frame head h) items
