-- What is read of a FLAC file that was written (RFC 9639).
use Rattle.std.specs.Prelude.{◌≡◌, ℕ, ◌+◌, ◌-◌, ◌^◌, ◌<◌, ◌≤◌, ◌/◌, ℤ, pos, List, []}
use Rattle.std.specs.Prelude.{◌∷◌, ◌++◌, length, drop, slice_index, Option, Some, None, Ok, true}
use Rattle.std.specs.List.{All}
use Rattle.ff_bits.specs.Bits.{bits, value_of}
use Rattle.ff_format.specs.Layouts.{finished}
use Rattle.ff_frame.specs.Heads.{IsFrameOf}
use Rattle.ff_frame.specs.declared.audio.AFrame.{AFrame}
use Rattle.ff_frame.specs.declared.head.Codec.TheVariants.{Flac}
use Rattle.ff_frame.specs.declared.head.StreamHead.{StreamHead}
use Rattle.ff_frame.specs.declared.head.StreamHead.TheVariants.{Audio, Video}
use Rattle.ff_frame.specs.declared.packet.Pkt.{Pkt}
use Rattle.ff_frame.specs.declared.totals.Totals.{Totals}
use Rattle.ff_flac_frame.specs.declared.stream.FlacStream.{FlacStream}
use Rattle.ff_flac_frame.specs.Frame.{Frame, Begins}
use Rattle.ff_flac_dec.specs.Channels.{IsWithinDepths, decoded}
use Rattle.ff_flac_dec.specs.Heads.{head as head_read}
use Rattle.ff_flac_dec.specs.laws.Info.{info_field}
use Rattle.ff_flac_dec.specs.Packets.{demuxed, broken_at}
use Rattle.ff_flac_dec.specs.Streams.{stream_of}
use Rattle.ff_flac_dec.specs.declared.head.FlacHead.{FlacHead}
use Rattle.ff_flac_enc.specs.Frame.{IsLeast}
use Rattle.ff_flac_enc.specs.Gathered.{all_samples, blocks_due}
use Rattle.ff_mux.specs.FlacHead.{CanHold, told, digest_of, flac_start}
use Rattle.ff_mux.specs.writers.FlacFile.{HasDigest, flac_layout}

-- ---- the head

-- audio of a rate that isn't 0, which would say that it isn't known
abbrev pub HasRate : StreamHead → Type 0
HasRate (Audio tb rate bits channels codec) = 1 ≤ rate
HasRate (Video tb format width height sar_num sar_den) = ⊥

-- a head as it is read again: with one tick a sample frame
abbrev pub head_again : StreamHead → StreamHead
head_again (Audio tb rate bits channels codec) = Audio (record { num = 1; den = rate }) rate bits channels Flac
head_again (Video tb format width height sar_num sar_den) = Video tb format width height sar_num sar_den

-- what a file says that begins with the header of this stream: its frames begin after 42 bytes
abbrev pub says : StreamHead → FlacHead
says head = record { head = head_again head; start = 42 }

-- A header with any totals is read as its stream, whatever follows,
abbrev pub HeadersAreRead : Type 0
HeadersAreRead = (head : StreamHead) (totals : Totals) (rest : List ℕ) → CanHold head → HasRate head → length totals.md5 ≡ 16
    → head_read (flac_start head totals ++ rest) ≡ Ok (says head)

-- what STREAMINFO is told, in the order of its fields
abbrev pub fields_of : StreamHead → Totals → List ℕ
fields_of (Audio tb rate depth channels codec) totals =
    4096 ∷ 4096 ∷ told 24 totals.min_frame ∷ told 24 totals.max_frame ∷ rate ∷ (channels - 1) ∷ (depth - 1) ∷ told 36 totals.samples
    ∷ value_of (bits (digest_of totals)) ∷ []
fields_of (Video tb format width height sar_num sar_den) totals = []

-- and each of its nine fields as what was written, by the widths by which they are read.
abbrev pub FieldsAreRead : Type 0
FieldsAreRead = (head : StreamHead) (totals : Totals) (rest : List ℕ) (number : ℕ) → CanHold head → length totals.md5 ≡ 16 → number < 9
    → info_field number (drop 4 (flac_start head totals ++ rest)) ≡ slice_index (fields_of head totals) number

-- ---- the frames

-- each frame is one of a stream with this head
abbrev pub AreFramesOf : StreamHead → List AFrame → Type 0
AreFramesOf (Audio tb rate bits channels codec) frames = All (IsFrameOf rate bits channels) frames
AreFramesOf (Video tb format width height sar_num sar_den) frames = ⊥

-- the packets hold these blocks, coded with numbers from this one on
abbrev pub HoldBlocks : ℕ → List AFrame → List (ℕ × Pkt) → Type 0
HoldBlocks number [] [] = Unit {0}
HoldBlocks number [] (p ∷ packets) = ⊥
HoldBlocks number (block ∷ blocks) [] = ⊥
HoldBlocks number (block ∷ blocks) (p ∷ packets) = IsLeast block number p.1.bytes × HoldBlocks (number + 1) blocks packets

-- the packet is one frame of the grammar, which stands for this audio from the packet's time on: the audio lasts as long as the packet,
-- and each sample is within its depth
abbrev pub StandsFor : FlacStream → Pkt → AFrame → Type 0
StandsFor s packet audio = (f : Frame) × Begins s packet.bytes f (length packet.bytes) × (decoded s packet.pts f ≡ audio)
    × (packet.duration ≡ pos (length audio.samples / audio.channels)) × IsWithinDepths s f

-- the packets stand for these audio frames, one each
abbrev pub StandFor : FlacStream → List Pkt → List AFrame → Type 0
StandFor s [] [] = Unit {0}
StandFor s [] (f ∷ frames) = ⊥
StandFor s (p ∷ packets) [] = ⊥
StandFor s (p ∷ packets) (f ∷ frames) = StandsFor s p f × StandFor s packets frames

-- audio frames one after another without a gap, the first from this sample frame on
abbrev pub FollowFrom : ℕ → List AFrame → Type 0
FollowFrom n [] = Unit {0}
FollowFrom n (f ∷ frames) = (f.pts ≡ pos n) × FollowFrom (n + length f.samples / f.channels) frames

-- the bytes after the head are packets without a break, and stand for these samples, from time 0 on
pub record AreRead (head : FlacHead) (samples : List ℤ) (rest : List ℕ) : Type 0 where
  pub frames : List AFrame
  pub stand : StandFor (stream_of head.head) (demuxed head rest) frames
  pub timed : FollowFrom 0 frames
  pub same : all_samples frames ≡ samples
  pub unbroken : broken_at head rest ≡ None

-- The finished file of an audio stream, each block of whose samples was coded in a packet, is read again: as its stream, and as
-- the same samples.
abbrev pub FilesAreRead : Type 0
FilesAreRead = (head : StreamHead) (totals : Option Totals) (frames : List AFrame) (packets : List (ℕ × Pkt)) (file : List ℕ)
    → CanHold head → HasRate head → HasDigest totals → AreFramesOf head frames
    → HoldBlocks 0 (blocks_due true frames) packets → length packets ≤ 2 ^ 31 → finished (flac_layout head) totals packets ≡ Some file
    → (head_read file ≡ Ok (says head)) × AreRead (says head) (all_samples frames) (drop (says head).start file)
