-- What a container of linear PCM owes to what is written: a file of a whole stream of audio is read again as the same samples.
use Rattle.std.specs.Prelude.{◌≡◌, ℕ, ℤ, List, drop, length, Ok, All}
use Rattle.std.specs.List.{flat_map}
use Rattle.ff_frame.specs.Audio.{IsAudio}
use Rattle.ff_frame.specs.declared.audio.AFrame.{AFrame}
use Rattle.ff_frame.specs.declared.head.Codec.{Codec}
use Rattle.ff_frame.specs.declared.head.StreamHead.{StreamHead}
use Rattle.ff_pcm.specs.Bytes.{bytes_of}
use Rattle.ff_pcm.specs.Depth.{at_depth}
use Rattle.ff_pcm.specs.Frames.{codec_of, channels_of}
use Rattle.ff_pcm.specs.Samples.{depth, samples_of}
use Rattle.ff_reader.specs.Heads.{Found}
use Rattle.ff_pcm.specs.declared.body.head.PcmHead.{PcmHead}
use Rattle.ff_pcm.specs.body.Packets.{IsStream, block_of, packets_of, demuxed}

-- A container of linear PCM.
pub record Container : Type 1 where
  -- it takes a stream of this head,
  pub Takes : StreamHead → Type 0
  -- and a body of so many bytes
  pub Holds : ℕ → Type 0
  -- the file of a stream and its body
  pub file_of : StreamHead → List ℕ → List ℕ
  -- the head of a whole input
  pub read : List ℕ → Found PcmHead

-- ---- a stream of audio, whole: its frames

-- a frame of so many channels
pub record IsFrame (channels : ℕ) (frame : AFrame) : Type 0 where
  pub audio : IsAudio frame.bits frame.channels frame.samples
  pub same_channels : frame.channels ≡ channels

-- the samples of frames at a depth, one frame after another
abbrev pub samples_at : ℕ → List AFrame → List ℤ
samples_at bits frames = flat_map (λ f. (at_depth bits f).samples) frames

-- the body that a codec makes of them, at its depth
abbrev pub body_at : Codec → List AFrame → List ℕ
body_at codec frames = flat_map (λ f. bytes_of codec (at_depth (depth codec) f).samples) frames

-- ---- the law

-- A file is read as a stream of this head, whose packets, one after another, stand for these samples.
pub record IsReadAs (read : List ℕ → Found PcmHead) (head : StreamHead) (samples : List ℤ) (file : List ℕ) : Type 0 where
  pub found : PcmHead
  pub is_read : read file ≡ Ok found
  pub same_stream : found.head ≡ head
  pub same_samples : flat_map (λ p. samples_of (codec_of head) p.bytes) (demuxed found (drop found.start file)) ≡ samples

-- Whatever frames a stream has, the file of them is read as their samples at the codec's depth.
abbrev pub SamplesComeBack : Container → Type 0
SamplesComeBack c = (head : StreamHead) (frames : List AFrame) → IsStream head → c.Takes head → All (IsFrame (channels_of head)) frames
    → c.Holds (length (body_at (codec_of head) frames))
    → IsReadAs c.read head (samples_at (depth (codec_of head)) frames) (c.file_of head (body_at (codec_of head) frames))

-- ---- by which it is shown

-- a file is read as a stream of this head, whose packets are those of this body
pub record HasBody (read : List ℕ → Found PcmHead) (head : StreamHead) (body file : List ℕ) : Type 0 where
  pub found : PcmHead
  pub is_read : read file ≡ Ok found
  pub same_stream : found.head ≡ head
  pub same_packets : demuxed found (drop found.start file) ≡ packets_of found.start (block_of head) body

abbrev pub BodiesComeBack : Container → Type 0
BodiesComeBack c = (head : StreamHead) (body : List ℕ) → IsStream head → c.Takes head → c.Holds (length body) → HasBody c.read head body (c.file_of head body)
