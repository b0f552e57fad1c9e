-- What linear PCM makes of what a lane carries.
use Rattle.std.specs.Prelude.{◌≡◌, ℕ, zero, suc, ◌*◌, ◌/◌, ◌%◌, ◌<◌, ℤ, pos, ◌+ℤ◌, List, [], ◌∷◌, map, length, refl}
use Rattle.std.proofs.Common.{sym, ap, ◌∙◌, arith, get_or}
use Rattle.std.proofs.lemmas.List.{length-map}
use Rattle.std.proofs.Math.Nat.{mul-div_cancel}
use Rattle.ff_frame.specs.declared.audio.AFrame.{AFrame}
use Rattle.ff_frame.specs.declared.packet.Pkt.{Pkt}
use Rattle.ff_frame.specs.declared.head.Codec.{Codec}
use Rattle.ff_frame.specs.declared.head.StreamHead.{StreamHead}
use Rattle.ff_frame.specs.declared.head.StreamHead.TheVariants.{Audio as AudioHead, Video as VideoHead}
use Rattle.ff_stream.specs.declared.item.Item.{Item}
use Rattle.ff_stream.specs.declared.item.Item.TheVariants.{Audio, Video, Packet, Trailer, End, Broken}
use Rattle.ff_frame.specs.laws.PcmLaws.{pcm_packet, packet_pcm}
use Rattle.ff_frame.specs.Heads.{IsFrameOf, IsSoundHead}
use Rattle.ff_frame.specs.Codecs.{IsPcmCodec, sample_bytes, IsPcm}
use Rattle.ff_stream.specs.Lanes.{FitsFrames, FitsPackets}
use Rattle.ff_pcm.specs.Depth.{shifted}
use Rattle.ff_pcm.specs.Frames.{rate_of, channels_of, bits_of, codec_of, IsPcmHead, HasBlocks, frame_of}
use Rattle.ff_pcm.specs.Samples.{StandFor, depth}
use Rattle.ff_pcm.proofs.ByteLaws.{bytes_length}
use Rattle.ff_pcm.proofs.SampleLaws.{all_fit, samples_stand, packet_audio, interleaved}
use Rattle.ff_node_codec.specs.laws.codecs.Made.{IsDecoded, IsEncoded, HasSameTimes}
use Rattle.ff_node_codec.specs.codecs.Decoding.{octets, pcm_frame}
use Rattle.ff_node_codec.specs.codecs.Encoding.{coded_head, packet_of, pcm_packet_of, IsSound}

-- ---- decoding

-- bytes stay
pub octets_same : (bs : List ℕ) → ((i : ℕ) → get_or bs i 0 < 256) → map (λ b. b % 256) bs ≡ bs
octets_same [] h = refl
octets_same (x ∷ xs) h =
    let same : x % 256 ≡ x = omega (arith, h zero) in
    ap (λ (y : ℕ). y ∷ map (λ b. b % 256) xs) same ∙ ap (λ (ys : List ℕ). x ∷ ys) (octets_same xs (λ i. h (suc i)))

octets_small : (bs : List ℕ) (i : ℕ) → get_or (map (λ b. b % 256) bs) i 0 < 256
octets_small [] i = omega arith
octets_small (x ∷ xs) zero = omega arith
octets_small (x ∷ xs) (suc i) = octets_small xs i

turned : (b c m : ℕ) → b * (c * m) ≡ m * (b * c)
turned b c m = omega arith

module _ (head : StreamHead) (p : Pkt) (h : IsPcmHead head) (b : IsPcm (channels_of head * sample_bytes (codec_of head)) p) where
  whole_octets : length (octets p).bytes ≡ b.blocks * (channels_of head * sample_bytes (codec_of head))
  whole_octets = length-map p.bytes (λ (n : ℕ). n % 256) ∙ b.whole_blocks

  octets_stand : StandFor (codec_of head) (octets p).bytes (frame_of head (octets p)).samples
  octets_stand =
      samples_stand (codec_of head) (octets p).bytes (b.blocks * channels_of head)
      (whole_octets ∙ turned b.blocks (channels_of head) (sample_bytes (codec_of head)))

  packet_frame : IsFrameOf (rate_of head) (bits_of head) (channels_of head) (frame_of head (octets p))
  packet_frame =
      let whole : HasBlocks head (octets p).bytes = record { blocks = b.blocks; some_blocks = b.some_blocks; few_blocks = b.few_blocks; whole_blocks = whole_octets } in
      record {
        rate_is = refl;
        bits_are = refl;
        channels_are = refl;
        audio = packet_audio head (octets p).bytes (frame_of head (octets p)).samples h whole octets_stand
            (all_fit (codec_of head) (octets p).bytes (octets_small p.bytes));
      }

  -- a frame has as many sample frames as its packet lasts
  frame_lasts : p.pts +ℤ pos (length (frame_of head (octets p)).samples / channels_of head) ≡ p.pts +ℤ p.duration
  frame_lasts =
      let count : length (frame_of head (octets p)).samples ≡ b.blocks * channels_of head =
      interleaved (codec_of head) (length (octets p).bytes) b.blocks (channels_of head) (length (frame_of head (octets p)).samples)
      whole_octets octets_stand.size in
      let over : length (frame_of head (octets p)).samples / channels_of head ≡ b.blocks =
      ap (λ (n : ℕ). n / channels_of head) count ∙ mul-div_cancel b.blocks h.some_channels in
      ap (λ (z : ℤ). p.pts +ℤ z) (ap pos over ∙ sym b.lasts)

pub pcm_decoded : (head : StreamHead) (p : Pkt) → IsPcmHead head → FitsPackets head (Packet p) → IsDecoded head p (HasBlocks head p.bytes) (pcm_frame head p)
pcm_decoded (AudioHead tb rate bits channels codec) p h t =
    let head = AudioHead tb rate bits channels codec in
    let pcm : IsPcm (channels * sample_bytes codec) p = pcm_packet codec channels p h.coded t.1 in
    record {
      taken = record { blocks = pcm.blocks; some_blocks = pcm.some_blocks; few_blocks = pcm.few_blocks; whole_blocks = pcm.whole_blocks };
      made = record { fits = packet_frame head p h pcm; timed = tt; starts = refl; ends = frame_lasts head p h pcm };
    }
pcm_decoded (VideoHead tb format width height sar_num sar_den) p h t = absurd h.sound

-- ---- encoding

counted : (b c m n : ℕ) → n ≡ b * c → m * n ≡ b * (c * m)
counted b c m n e = ap (λ (k : ℕ). m * k) e ∙ sym (turned b c m)

-- a frame's packet has as many blocks as the frame has sample frames
frame_packet : (codec : Codec) (rate bits channels : ℕ) (f : AFrame) → IsPcmCodec codec → IsFrameOf rate bits channels f → IsPcm (channels * sample_bytes codec) (packet_of codec f)
frame_packet codec rate bits channels f h t =
    let samples : List ℤ = map (shifted f.bits (depth codec)) f.samples in
    let count : length samples ≡ t.audio.sample_frames * channels =
    length-map f.samples (shifted f.bits (depth codec)) ∙ (t.audio.interleaved ∙ ap (λ (c : ℕ). t.audio.sample_frames * c) t.channels_are) in
    record {
      blocks = t.audio.sample_frames;
      some_blocks = t.audio.some_sample_frames;
      few_blocks = t.audio.few_sample_frames;
      whole_blocks = bytes_length codec samples h ∙ counted t.audio.sample_frames channels (sample_bytes codec) (length samples) count;
      lasts = ap pos (ap (λ (n : ℕ). n / f.channels) t.audio.interleaved ∙ mul-div_cancel t.audio.sample_frames t.audio.some_channels);
    }

pub pcm_encoded : (codec : Codec) (head : StreamHead) (x : Item) → IsPcmCodec codec → IsSoundHead head → FitsFrames head x
    → IsEncoded (coded_head codec head) x (IsSound x) (pcm_packet_of codec x)
pcm_encoded codec (AudioHead tb rate bits channels from) (Audio f) h s t = record {
  taken = t.audio;
  made = record { fits = (refl, packet_pcm codec channels (packet_of codec f) h (frame_packet codec rate bits channels f h t)); timed = tt; starts = refl; ends = refl };
}
pcm_encoded codec (AudioHead tb rate bits channels from) (Video f) h s t = absurd t
pcm_encoded codec (AudioHead tb rate bits channels from) (Packet p) h s t = absurd t
pcm_encoded codec (AudioHead tb rate bits channels from) (Trailer x) h s t = absurd t
pcm_encoded codec (AudioHead tb rate bits channels from) End h s t = absurd t
pcm_encoded codec (AudioHead tb rate bits channels from) Broken h s t = absurd t
pcm_encoded codec (VideoHead tb format width height sar_num sar_den) x h s t = absurd s

pub pcm_times : (codec : Codec) (head : StreamHead) → HasSameTimes head (coded_head codec head)
pcm_times codec (AudioHead tb rate bits channels from) = record { base = refl; apart = λ x y a. a }
pcm_times codec (VideoHead tb format width height sar_num sar_den) = record { base = refl; apart = λ x y a. a }
