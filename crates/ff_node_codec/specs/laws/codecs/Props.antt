-- Heads of linear PCM and of video: each is one in one way at most.
use Rattle.std.specs.Coded.{Unit-prop, le_prop}
use Rattle.std.proofs.Math.Nat.{ℕ_set}
use Rattle.ff_frame.specs.declared.head.StreamHead.{StreamHead}
use Rattle.ff_frame.specs.declared.head.StreamHead.TheVariants.{Audio, Video}
use Rattle.ff_frame.specs.Heads.{IsSoundHead}
use Rattle.ff_frame.specs.laws.PcmLaws.{IsPcmCodec-prop}
use Rattle.ff_pcm.specs.Frames.{codec_of, IsPcmHead}
use Rattle.ff_node_codec.specs.codecs.Decoding.{IsPictureHead}

IsSoundHead-prop : (head : StreamHead) → IsProp (IsSoundHead head)
IsSoundHead-prop (Audio base rate bits channels codec) = Unit-prop
IsSoundHead-prop (Video tb format width height sar_num sar_den) = λ a. absurd a

pub IsPcmHead-prop : (head : StreamHead) → IsProp (IsPcmHead head)
IsPcmHead-prop head = hlevel (IsSoundHead-prop head, IsPcmCodec-prop (codec_of head), le_prop, ℕ_set)

pub IsPictureHead-prop : (head : StreamHead) → IsProp (IsPictureHead head)
IsPictureHead-prop (Audio base rate bits channels codec) = λ a. absurd a
IsPictureHead-prop (Video tb format width height sar_num sar_den) = hlevel le_prop
