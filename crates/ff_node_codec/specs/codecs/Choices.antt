-- Which codecs serve a head, and what they make: a line for each way of coding.
use Rattle.std.specs.Prelude.{◌≡◌, Option, None}
use Rattle.ff_frame.specs.declared.packet.Pkt.{Pkt}
use Rattle.ff_frame.specs.declared.head.StreamHead.{StreamHead}
use Rattle.ff_frame.specs.declared.head.StreamHead.TheVariants.{Audio as AudioHead, Video as VideoHead}
use Rattle.ff_frame.specs.declared.coding.Coding.{Coding}
use Rattle.ff_frame.specs.declared.coding.Coding.TheVariants.{Pcm, Flac, RawVideo}
use Rattle.ff_frame.specs.declared.head.Codec.{Codec}
use Rattle.ff_frame.specs.Codecs.{coding_of, IsPcmCodec}
use Rattle.ff_flac_frame.specs.Frame.{IsStream}
use Rattle.ff_flac_dec.specs.Streams.{stream_of}
use Rattle.ff_stream.specs.declared.item.Item.{Item}
use Rattle.ff_pcm.specs.Frames.{IsPcmHead}
use Rattle.ff_node_codec.specs.codecs.Decoding.{pcm_frame, raw_frame, flac_frame, IsPictureHead}
use Rattle.ff_node_codec.specs.codecs.Encoding.{coded_head, pcm_packet_of, raw_packet_of}

-- sound that is coded so is decoded: FLAC of 4 to 24 bits, 1 to 8 channels and a rate of 1 to 1,048,575, or linear PCM at its codec's
-- depth
abbrev pub CanDecodeCoded : StreamHead → Coding → Type 0
CanDecodeCoded head (Pcm form) = IsPcmHead head
CanDecodeCoded head Flac = IsStream (stream_of head)
CanDecodeCoded head RawVideo = ⊥

abbrev pub CanDecodeSound : StreamHead → Codec → Type 0
CanDecodeSound head codec = CanDecodeCoded head (coding_of codec)

-- packets of this head are decoded: sound, or pictures of 1 to 16,384 columns and rows
abbrev pub CanDecode : StreamHead → Type 0
CanDecode (AudioHead tb rate bits channels codec) = CanDecodeSound (AudioHead tb rate bits channels codec) codec
CanDecode (VideoHead tb format width height sar_num sar_den) = IsPictureHead (VideoHead tb format width height sar_num sar_den)

abbrev pub coded_made : StreamHead → Coding → Pkt → Option Item
coded_made head (Pcm form) packet = pcm_frame head packet
coded_made head Flac packet = flac_frame head packet
coded_made head RawVideo packet = None

abbrev pub sound_made : StreamHead → Codec → Pkt → Option Item
sound_made head codec packet = coded_made head (coding_of codec) packet

-- the frame of a packet of a stream of this head
abbrev pub frame_made : StreamHead → Pkt → Option Item
frame_made (AudioHead tb rate bits channels codec) packet = sound_made (AudioHead tb rate bits channels codec) codec packet
frame_made (VideoHead tb format width height sar_num sar_den) packet = raw_frame (VideoHead tb format width height sar_num sar_den) packet

-- frames of the first head are encoded to packets of the second: sound as linear PCM, pictures as they stand
abbrev pub CanEncode : StreamHead → StreamHead → Type 0
CanEncode (AudioHead tb rate bits channels from) (AudioHead tb' rate' bits' channels' codec) =
    IsPcmCodec codec × (AudioHead tb' rate' bits' channels' codec ≡ coded_head codec (AudioHead tb rate bits channels from))
CanEncode (AudioHead tb rate bits channels from) (VideoHead tb' format width height sar_num sar_den) = ⊥
CanEncode (VideoHead tb format width height sar_num sar_den) (AudioHead tb' rate bits channels codec) = ⊥
CanEncode (VideoHead tb format width height sar_num sar_den) (VideoHead tb' format' width' height' sar_num' sar_den') =
    VideoHead tb' format' width' height' sar_num' sar_den' ≡ VideoHead tb format width height sar_num sar_den

-- the packet of a frame, in a stream of this head
abbrev pub packet_made : StreamHead → Item → Option Pkt
packet_made (AudioHead tb rate bits channels codec) frame = pcm_packet_of codec frame
packet_made (VideoHead tb format width height sar_num sar_den) frame = raw_packet_of frame
