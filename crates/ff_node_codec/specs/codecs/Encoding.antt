-- The packets of frames.
use Rattle.std.specs.Prelude.{◌/◌, pos, length, Option, Some, None}
use Rattle.ff_frame.specs.Audio.{IsAudio}
use Rattle.ff_frame.specs.Packet.{packet_at}
use Rattle.ff_frame.specs.declared.audio.AFrame.{AFrame}
use Rattle.ff_frame.specs.declared.packet.Pkt.{Pkt}
use Rattle.ff_frame.specs.declared.head.Codec.{Codec}
use Rattle.ff_frame.specs.declared.head.StreamHead.{StreamHead}
use Rattle.ff_frame.specs.declared.head.StreamHead.TheVariants.{Audio as AudioHead, Video as VideoHead}
use Rattle.ff_stream.specs.declared.item.Item.{Item}
use Rattle.ff_stream.specs.declared.item.Item.TheVariants.{Audio, Video, Packet, Trailer, End, Broken}
use Rattle.ff_pcm.specs.Bytes.{bytes_of}
use Rattle.ff_pcm.specs.Depth.{at_depth}
use Rattle.ff_pcm.specs.Samples.{depth}

-- the head of what a stream of sound is coded to: the same times, rate and channels, at the codec's depth
abbrev pub coded_head : Codec → StreamHead → StreamHead
coded_head codec (AudioHead tb rate bits channels from) = AudioHead tb rate (depth codec) channels codec
coded_head codec (VideoHead tb format width height sar_num sar_den) = VideoHead tb format width height sar_num sar_den

-- linear PCM: its time, its number of sample frames, and the bytes of its samples at the codec's depth
abbrev pub packet_of : Codec → AFrame → Pkt
packet_of codec frame = packet_at frame.pts (pos (length frame.samples / frame.channels)) 0 (bytes_of codec (at_depth (depth codec) frame).samples)

abbrev pub pcm_packet_of : Codec → Item → Option Pkt
pcm_packet_of codec (Audio f) = Some (packet_of codec f)
pcm_packet_of codec (Video f) = None
pcm_packet_of codec (Packet p) = None
pcm_packet_of codec (Trailer t) = None
pcm_packet_of codec End = None
pcm_packet_of codec Broken = None

-- raw video: its times, and the planes as they stand
abbrev pub raw_packet_of : Item → Option Pkt
raw_packet_of (Audio f) = None
raw_packet_of (Video f) = Some (packet_at f.pts f.duration 0 f.planes)
raw_packet_of (Packet p) = None
raw_packet_of (Trailer t) = None
raw_packet_of End = None
raw_packet_of Broken = None

-- sound whose fields agree
abbrev pub IsSound : Item → Type 0
IsSound (Audio f) = IsAudio f.bits f.channels f.samples
IsSound (Video f) = ⊥
IsSound (Packet p) = ⊥
IsSound (Trailer t) = ⊥
IsSound End = ⊥
IsSound Broken = ⊥

-- a picture
abbrev pub IsPicture : Item → Type 0
IsPicture (Audio f) = ⊥
IsPicture (Video f) = Unit {0}
IsPicture (Packet p) = ⊥
IsPicture (Trailer t) = ⊥
IsPicture End = ⊥
IsPicture Broken = ⊥

-- streams of pictures
abbrev pub IsPictures : StreamHead → Type 0
IsPictures (AudioHead tb rate bits channels codec) = ⊥
IsPictures (VideoHead tb format width height sar_num sar_den) = Unit {0}
