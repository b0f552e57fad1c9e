-- The frame that a packet of linear PCM stands for.
use Rattle.std.specs.Prelude.{◌≡◌, ℕ, ◌*◌, ◌≤◌, List, length}
use Rattle.ff_frame.specs.Frame.{audio_frame}
use Rattle.ff_frame.specs.Heads.{IsSoundHead}
use Rattle.ff_frame.specs.Codecs.{IsPcmCodec, sample_bytes}
use Rattle.ff_frame.specs.declared.audio.AFrame.{AFrame}
use Rattle.ff_frame.specs.declared.head.Codec.{Codec}
use Rattle.ff_frame.specs.declared.head.Codec.TheVariants.{PcmU8}
use Rattle.ff_frame.specs.declared.head.StreamHead.{StreamHead}
use Rattle.ff_frame.specs.declared.head.StreamHead.TheVariants.{Audio, Video}
use Rattle.ff_frame.specs.declared.packet.Pkt.{Pkt}
use Rattle.ff_pcm.specs.Samples.{depth, samples_of}

-- the fields of a head of sound; that of video has none, and what is said of it here is never used
abbrev pub rate_of : StreamHead → ℕ
rate_of (Audio tb rate bits channels codec) = rate
rate_of (Video tb format width height sar_num sar_den) = 0

abbrev pub channels_of : StreamHead → ℕ
channels_of (Audio tb rate bits channels codec) = channels
channels_of (Video tb format width height sar_num sar_den) = 0

abbrev pub bits_of : StreamHead → ℕ
bits_of (Audio tb rate bits channels codec) = bits
bits_of (Video tb format width height sar_num sar_den) = 0

abbrev pub codec_of : StreamHead → Codec
codec_of (Audio tb rate bits channels codec) = codec
codec_of (Video tb format width height sar_num sar_den) = PcmU8

-- sound of 1 to 8 channels with a PCM codec of its own depth
pub record IsPcmHead (head : StreamHead) : Type 0 where
  pub sound : IsSoundHead head
  pub coded : IsPcmCodec (codec_of head)
  pub depth_is : bits_of head ≡ depth (codec_of head)
  pub some_channels : 1 ≤ channels_of head
  pub few_channels : channels_of head ≤ 8

-- so many are 1 to 65,535 whole blocks of this size
abbrev pub AreBlocks : ℕ → ℕ → Type 0
AreBlocks block count = (blocks : ℕ) × (1 ≤ blocks) × (blocks ≤ 65535) × (count ≡ blocks * block)

-- whole blocks of one sample for each channel, 1 to 65,535 of them
pub record HasBlocks (head : StreamHead) (bytes : List ℕ) : Type 0 where
  pub blocks : ℕ
  pub some_blocks : 1 ≤ blocks
  pub few_blocks : blocks ≤ 65535
  pub whole_blocks : length bytes ≡ blocks * (channels_of head * sample_bytes (codec_of head))

-- the frame of a packet: its pts, and the samples that its bytes stand for
abbrev pub frame_of : StreamHead → Pkt → AFrame
frame_of head packet = audio_frame packet.pts (rate_of head) (bits_of head) (channels_of head) (samples_of (codec_of head) packet.bytes)
