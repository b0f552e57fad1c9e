-- What the codecs of a head make of what its lane carries: a line for each way of coding.
use Rattle.std.proofs.Common.{sym, subst}
use Rattle.ff_frame.specs.declared.packet.Pkt.{Pkt}
use Rattle.ff_frame.specs.Codecs.{coding_of}
use Rattle.ff_frame.specs.declared.coding.Coding.{Coding}
use Rattle.ff_frame.specs.declared.coding.Coding.TheVariants.{Pcm, Flac, RawVideo}
use Rattle.ff_frame.specs.declared.head.Codec.{Codec}
use Rattle.ff_frame.specs.declared.head.StreamHead.{StreamHead}
use Rattle.ff_frame.specs.declared.head.StreamHead.TheVariants.{Audio as AudioHead, Video as VideoHead}
use Rattle.ff_stream.specs.declared.item.Item.{Item}
use Rattle.ff_stream.specs.declared.item.Item.TheVariants.{Packet}
use Rattle.ff_stream.specs.Lanes.{FitsFrames, FitsPackets}
use Rattle.ff_pcm.specs.Frames.{HasBlocks}
use Rattle.ff_pcm.specs.laws.Raw.{HasFrame}
use Rattle.ff_node_codec.specs.laws.codecs.Made.{HasSameTimes, IsDecoded, IsEncoded}
use Rattle.ff_node_codec.specs.codecs.Encoding.{IsSound, IsPicture}
use Rattle.ff_node_codec.specs.codecs.Choices.{CanDecode, CanDecodeCoded, CanEncode, frame_made, coded_made, packet_made}
use Rattle.ff_node_codec.specs.laws.codecs.PcmLaws.{pcm_decoded, pcm_encoded, pcm_times}
use Rattle.ff_node_codec.specs.laws.codecs.RawLaws.{raw_decoded, raw_encoded, raw_times}
use Rattle.ff_node_codec.specs.laws.codecs.FlacLaws.{flac_decoded}

abbrev pub IsCodedTaken : StreamHead → Coding → Pkt → Type 0
IsCodedTaken head (Pcm form) p = HasBlocks head p.bytes
IsCodedTaken head Flac p = Unit {0}
IsCodedTaken head RawVideo p = ⊥

abbrev pub IsSoundTaken : StreamHead → Codec → Pkt → Type 0
IsSoundTaken head codec p = IsCodedTaken head (coding_of codec) p

-- what packets of this head are decoded
abbrev pub IsTakenOf : StreamHead → Pkt → Type 0
IsTakenOf (AudioHead tb rate bits channels codec) p = IsSoundTaken (AudioHead tb rate bits channels codec) codec p
IsTakenOf (VideoHead tb format width height sar_num sar_den) p = HasFrame (VideoHead tb format width height sar_num sar_den) p.bytes

-- what frames are encoded to packets of this head
abbrev pub IsTakenFor : StreamHead → Item → Type 0
IsTakenFor (AudioHead tb rate bits channels codec) x = IsSound x
IsTakenFor (VideoHead tb format width height sar_num sar_den) x = IsPicture x

coded_decoded : (head : StreamHead) (coding : Coding) (p : Pkt) → CanDecodeCoded head coding → FitsPackets head (Packet p)
    → IsDecoded head p (IsCodedTaken head coding p) (coded_made head coding p)
coded_decoded head (Pcm form) p c fits = pcm_decoded head p c fits
coded_decoded head Flac p c fits = flac_decoded head p c fits
coded_decoded head RawVideo p c fits = absurd c

pub choice_decoded : (head : StreamHead) (p : Pkt) → CanDecode head → FitsPackets head (Packet p)
    → IsDecoded head p (IsTakenOf head p) (frame_made head p)
choice_decoded (AudioHead tb rate bits channels codec) p c fits = coded_decoded (AudioHead tb rate bits channels codec) (coding_of codec) p c fits
choice_decoded (VideoHead tb format width height sar_num sar_den) p c fits = raw_decoded (VideoHead tb format width height sar_num sar_den) p c fits

pub choice_encoded : (head coded : StreamHead) (x : Item) → CanEncode head coded → FitsFrames head x
    → IsEncoded coded x (IsTakenFor coded x) (packet_made coded x)
choice_encoded (AudioHead tb rate bits channels from) (AudioHead tb' rate' bits' channels' codec) x c fits =
    subst (λ (h : StreamHead). IsEncoded h x (IsTakenFor h x) (packet_made h x)) (sym c.1)
    (pcm_encoded codec (AudioHead tb rate bits channels from) x c.0 tt fits)
choice_encoded (AudioHead tb rate bits channels from) (VideoHead tb' format width height sar_num sar_den) x c fits = absurd c
choice_encoded (VideoHead tb format width height sar_num sar_den) (AudioHead tb' rate bits channels codec) x c fits = absurd c
choice_encoded (VideoHead tb format width height sar_num sar_den) (VideoHead tb' format' width' height' sar_num' sar_den') x c fits =
    subst (λ (h : StreamHead). IsEncoded h x (IsTakenFor h x) (packet_made h x)) (sym c)
    (raw_encoded (VideoHead tb format width height sar_num sar_den) x tt fits)

pub choice_times : (head coded : StreamHead) → CanEncode head coded → HasSameTimes head coded
choice_times (AudioHead tb rate bits channels from) (AudioHead tb' rate' bits' channels' codec) c =
    subst (λ (h : StreamHead). HasSameTimes (AudioHead tb rate bits channels from) h) (sym c.1)
    (pcm_times codec (AudioHead tb rate bits channels from))
choice_times (AudioHead tb rate bits channels from) (VideoHead tb' format width height sar_num sar_den) c = absurd c
choice_times (VideoHead tb format width height sar_num sar_den) (AudioHead tb' rate bits channels codec) c = absurd c
choice_times (VideoHead tb format width height sar_num sar_den) (VideoHead tb' format' width' height' sar_num' sar_den') c =
    subst (λ (h : StreamHead). HasSameTimes (VideoHead tb format width height sar_num sar_den) h) (sym c)
    (raw_times (VideoHead tb format width height sar_num sar_den))
