-- A decoder and an encoder of any codec: a line for each.
use Rattle.std.specs.Prelude.{Option}
use Rattle.ff_frame.specs.declared.packet.Pkt.{Pkt}
use Rattle.ff_frame.specs.declared.head.StreamHead.{StreamHead}
use Rattle.ff_frame.specs.Heads.{IsSoundHead}
use Rattle.ff_stream.specs.declared.item.Item.{Item}
use Rattle.ff_stream.specs.declared.item.Item.TheVariants.{Packet}
use Rattle.ff_stream.specs.Lanes.{FitsFrames, FitsPackets}
use Rattle.ff_pcm.specs.Frames.{HasBlocks}
use Rattle.ff_pcm.specs.laws.Raw.{HasFrame}
use Rattle.ff_node_codec.specs.declared.codecs.any.AnyDecoder.{AnyDecoder}
use Rattle.ff_node_codec.specs.declared.codecs.any.AnyDecoder.TheVariants as from
use Rattle.ff_node_codec.specs.declared.codecs.any.AnyEncoder.{AnyEncoder}
use Rattle.ff_node_codec.specs.declared.codecs.any.AnyEncoder.TheVariants as to
use Rattle.ff_node_codec.specs.laws.codecs.Made.{IsDecoded, IsEncoded, HasSameTimes}
use Rattle.ff_node_codec.specs.codecs.Decoding.{pcm_frame, raw_frame, flac_frame}
use Rattle.ff_node_codec.specs.codecs.Encoding.{coded_head, pcm_packet_of, raw_packet_of, IsSound, IsPicture, IsPictures}
use Rattle.ff_node_codec.specs.laws.codecs.Coders.{pcm_head, raw_head, flac_head, pcm_codec}
use Rattle.ff_node_codec.specs.laws.codecs.PcmLaws.{pcm_decoded, pcm_encoded, pcm_times}
use Rattle.ff_node_codec.specs.laws.codecs.RawLaws.{raw_decoded, raw_encoded, raw_times}
use Rattle.ff_node_codec.specs.laws.codecs.FlacLaws.{flac_decoded}

-- ---- decoders

abbrev pub any_head : AnyDecoder → StreamHead
any_head (from.Pcm d) = pcm_head d
any_head (from.Raw d) = raw_head d
any_head (from.Flac d) = flac_head d

abbrev pub any_takes : AnyDecoder → Pkt → Type 0
any_takes (from.Pcm d) p = HasBlocks (pcm_head d) p.bytes
any_takes (from.Raw d) p = HasFrame (raw_head d) p.bytes
any_takes (from.Flac d) p = Unit {0}

abbrev pub any_frame : AnyDecoder → Pkt → Option Item
any_frame (from.Pcm d) p = pcm_frame (pcm_head d) p
any_frame (from.Raw d) p = raw_frame (raw_head d) p
any_frame (from.Flac d) p = flac_frame (flac_head d) p

pub any_decoded : (d : AnyDecoder) (p : Pkt) → FitsPackets (any_head d) (Packet p) → IsDecoded (any_head d) p (any_takes d p) (any_frame d p)
any_decoded (from.Pcm d) p fits = pcm_decoded (pcm_head d) p d.pcm fits
any_decoded (from.Raw d) p fits = raw_decoded (raw_head d) p d.sides fits
any_decoded (from.Flac d) p fits = flac_decoded (flac_head d) p d.stream fits

-- ---- encoders

abbrev pub any_serves : AnyEncoder → StreamHead → Type 0
any_serves (to.Pcm e) head = IsSoundHead head
any_serves (to.Raw e) head = IsPictures head

abbrev pub any_coded : AnyEncoder → StreamHead → StreamHead
any_coded (to.Pcm e) head = coded_head (pcm_codec e) head
any_coded (to.Raw e) head = head

abbrev pub any_accepts : AnyEncoder → Item → Type 0
any_accepts (to.Pcm e) x = IsSound x
any_accepts (to.Raw e) x = IsPicture x

abbrev pub any_packet : AnyEncoder → Item → Option Pkt
any_packet (to.Pcm e) x = pcm_packet_of (pcm_codec e) x
any_packet (to.Raw e) x = raw_packet_of x

pub any_encoded : (e : AnyEncoder) (head : StreamHead) (x : Item) → any_serves e head → FitsFrames head x
    → IsEncoded (any_coded e head) x (any_accepts e x) (any_packet e x)
any_encoded (to.Pcm e) head x serves fits = pcm_encoded (pcm_codec e) head x e.pcm serves fits
any_encoded (to.Raw e) head x serves fits = raw_encoded head x serves fits

pub any_times : (e : AnyEncoder) (head : StreamHead) → any_serves e head → HasSameTimes head (any_coded e head)
any_times (to.Pcm e) head serves = pcm_times (pcm_codec e) head
any_times (to.Raw e) head serves = raw_times head
