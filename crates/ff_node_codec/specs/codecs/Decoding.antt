-- The frames of packets.
use Rattle.std.specs.Prelude.{◌≡◌, ℕ, ◌-◌, ◌/◌, ◌%◌, ◌^◌, ◌==◌, ◌&&◌, nat_lt, Bool, true, false, ℤ, pos, negsuc, List, [], ◌∷◌, map, length, Option, Some, None}
use Rattle.ff_bits.specs.Bits.{bits}
use Rattle.ff_bits.specs.Reading.{Answer, Done, More, Bad}
use Rattle.ff_flac_frame.specs.declared.stream.FlacStream.{FlacStream}
use Rattle.ff_flac_frame.specs.Codes.{depths}
use Rattle.ff_flac_frame.specs.Frame.{Part, Frame, frame}
use Rattle.ff_flac_dec.specs.Channels.{channels_of, decoded}
use Rattle.ff_flac_dec.specs.Streams.{stream_of}
use Rattle.ff_flac_dec.specs.Values.{coded_samples}
use Rattle.ff_frame.specs.declared.audio.AFrame.{AFrame}
use Rattle.ff_frame.specs.Frame.{video_frame}
use Rattle.ff_frame.specs.Video.{IsSide}
use Rattle.ff_frame.specs.declared.packet.Pkt.{Pkt}
use Rattle.ff_frame.specs.declared.head.StreamHead.{StreamHead}
use Rattle.ff_frame.specs.declared.head.StreamHead.TheVariants.{Audio as AudioHead, Video as VideoHead}
use Rattle.ff_stream.specs.declared.item.Item.{Item}
use Rattle.ff_stream.specs.declared.item.Item.TheVariants.{Audio, Video}
use Rattle.ff_pcm.specs.Frames.{frame_of}

-- a byte is a number below 256; of another number its lowest 8 bits count
abbrev pub octets : Pkt → Pkt
octets packet = record packet { bytes = map (λ b. b % 256) packet.bytes }

-- linear PCM: the samples that the bytes stand for
abbrev pub pcm_frame : StreamHead → Pkt → Option Item
pcm_frame head packet = Some (Audio (frame_of head (octets packet)))

-- a stream of pictures of 1 to 16,384 columns and rows
abbrev pub IsPictureHead : StreamHead → Type 0
IsPictureHead (AudioHead tb rate bits channels codec) = ⊥
IsPictureHead (VideoHead tb format width height sar_num sar_den) = IsSide width × IsSide height

-- raw video: the planes as they stand
abbrev pub raw_frame : StreamHead → Pkt → Option Item
raw_frame (AudioHead tb rate bits channels codec) packet = None
raw_frame (VideoHead tb format width height sar_num sar_den) packet = Some (Video (video_frame packet.pts packet.duration format width height packet.bytes))

-- ---- FLAC

-- whether a sample is within so many bits, and each of a list
abbrev pub is_in_depth : ℕ → ℤ → Bool
is_in_depth depth (pos n) = nat_lt n (2 ^ (depth - 1))
is_in_depth depth (negsuc n) = nat_lt n (2 ^ (depth - 1))

abbrev pub all_in_depth : ℕ → List ℤ → Bool
all_in_depth depth [] = true
all_in_depth depth (x ∷ xs) = is_in_depth depth x && all_in_depth depth xs

-- each sample of each subframe is within its depth, less its wasted bits
abbrev pub all_coded : ℕ → List ℕ → List Part → Bool
all_coded block [] parts = true
all_coded block (d ∷ ds) [] = true
all_coded block (d ∷ ds) (p ∷ parts) = all_in_depth (d - p.wasted) (coded_samples block p) && all_coded block ds parts

abbrev pub all_channels : ℕ → List (List ℤ) → Bool
all_channels depth [] = true
all_channels depth (xs ∷ channels) = all_in_depth depth xs && all_channels depth channels

-- whether each sample of a frame is within its subframe's depth and the stream's
unfoldable pub within_depths : FlacStream → Frame → Bool
within_depths s f = all_coded f.header.block (depths f.header.form s.channels s.bits) f.parts && all_channels s.bits (channels_of f)

-- the bytes of a packet are this frame of the grammar, and nothing stands behind it
abbrev pub IsFlacPacket : StreamHead → Pkt → Frame → Type 0
IsFlacPacket head packet f = frame (stream_of head) (bits packet.bytes) ≡ Done f []

-- whether a packet lasts as many ticks as sound has sample frames
abbrev pub lasts : ℤ → AFrame → Bool
lasts (pos n) sound = n == length sound.samples / sound.channels
lasts (negsuc n) sound = false

abbrev pub sound_if : Bool → AFrame → Option Item
sound_if true sound = Some (Audio sound)
sound_if false sound = None

-- what was read of a packet's bits: a frame that is all of them, of as many sample frames as the packet lasts, and none of whose
-- samples leaves its depth
abbrev pub frame_read : FlacStream → Pkt → Answer Frame → Option Item
frame_read s packet (Done f []) = sound_if (lasts packet.duration (decoded s packet.pts f) && within_depths s f) (decoded s packet.pts f)
frame_read s packet (Done f (b ∷ rest)) = None
frame_read s packet More = None
frame_read s packet Bad = None

-- FLAC: the sound that the packet's one frame stands for (RFC 9639, section 9)
unfoldable pub flac_frame : StreamHead → Pkt → Option Item
flac_frame head packet = frame_read (stream_of head) packet (frame (stream_of head) (bits packet.bytes))
