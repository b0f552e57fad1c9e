-- What raw video makes of what a lane carries.
use Rattle.std.specs.Prelude.{refl}
use Rattle.std.proofs.Common.{ap, ◌∙◌}
use Rattle.ff_frame.specs.declared.packet.Pkt.{Pkt}
use Rattle.ff_frame.specs.declared.head.StreamHead.{StreamHead}
use Rattle.ff_frame.specs.declared.head.StreamHead.TheVariants.{Audio as AudioHead, Video as VideoHead}
use Rattle.ff_frame.specs.Video.{frame_size, IsVideo}
use Rattle.ff_stream.specs.declared.item.Item.{Item}
use Rattle.ff_stream.specs.declared.item.Item.TheVariants.{Audio, Video, Packet, Trailer, End, Broken}
use Rattle.ff_stream.specs.Lanes.{FitsFrames, FitsPackets}
use Rattle.ff_pcm.specs.laws.Raw.{HasFrame}
use Rattle.ff_node_codec.specs.laws.codecs.Made.{IsDecoded, IsEncoded, HasSameTimes}
use Rattle.ff_node_codec.specs.codecs.Decoding.{raw_frame, IsPictureHead}
use Rattle.ff_node_codec.specs.codecs.Encoding.{raw_packet_of, IsPicture, IsPictures}

pub raw_decoded : (head : StreamHead) (p : Pkt) → IsPictureHead head → FitsPackets head (Packet p) → IsDecoded head p (HasFrame head p.bytes) (raw_frame head p)
raw_decoded (AudioHead tb rate bits channels codec) p h t = absurd h
raw_decoded (VideoHead tb format width height sar_num sar_den) p h t =
    let video : IsVideo format width height p.bytes = record { columns = h.0; rows = h.1; samples = t.1 } in
    record {
      taken = video;
      made = record { fits = record { format_is = refl; columns_are = refl; rows_are = refl; video = video }; timed = tt; starts = refl; ends = refl };
    }

pub raw_encoded : (head : StreamHead) (x : Item) → IsPictures head → FitsFrames head x → IsEncoded head x (IsPicture x) (raw_packet_of x)
raw_encoded (AudioHead tb rate bits channels codec) x s t = absurd s
raw_encoded (VideoHead tb format width height sar_num sar_den) (Video f) s t = record {
  taken = tt;
  made = record {
    fits = (
      refl,
      t.video.samples ∙ ap (λ k. frame_size k f.width f.height) t.format_is
          ∙ ap (λ k. frame_size format k f.height) t.columns_are ∙ ap (λ k. frame_size format width k) t.rows_are,
    );
    timed = tt;
    starts = refl;
    ends = refl;
  };
}
raw_encoded (VideoHead tb format width height sar_num sar_den) (Audio f) s t = absurd t
raw_encoded (VideoHead tb format width height sar_num sar_den) (Packet p) s t = absurd t
raw_encoded (VideoHead tb format width height sar_num sar_den) (Trailer x) s t = absurd t
raw_encoded (VideoHead tb format width height sar_num sar_den) End s t = absurd t
raw_encoded (VideoHead tb format width height sar_num sar_den) Broken s t = absurd t

pub raw_times : (head : StreamHead) → HasSameTimes head head
raw_times head = record { base = refl; apart = λ x y a. a }
