-- How many bytes are written of a valid stream of linear PCM.
use Rattle.std.proofs.Common.{◌≡◌, ℕ, suc, ◌*◌, ◌^◌, ◌<◌, ◌≤◌, true, List, [], ◌∷◌, length, sym, ap, subst, arith, length-append}
use Rattle.std.specs.Prelude.{All}
use Rattle.std.proofs.lemmas.Nat.{mul-le}
use Rattle.ff_format.specs.Layouts.{Layout, body, fits}
use Rattle.ff_frame.specs.Codecs.{coding_of, depth_bytes, IsCodedSound, IsPcmCodec, IsPcmCoding}
use Rattle.ff_frame.specs.Heads.{base_of_head}
use Rattle.ff_frame.specs.declared.coding.Coding.{Coding}
use Rattle.ff_frame.specs.declared.coding.Coding.TheVariants.{Pcm, Flac, RawVideo}
use Rattle.ff_frame.specs.declared.coding.PcmDepth.{PcmDepth}
use Rattle.ff_frame.specs.declared.coding.PcmDepth.TheVariants.{Bits8, Bits16, Bits24, Bits32}
use Rattle.ff_frame.specs.declared.head.Codec.{Codec}
use Rattle.ff_frame.specs.declared.head.StreamHead.TheVariants.{Audio as AudioHead, Video as VideoHead}
use Rattle.ff_frame.specs.declared.packet.Pkt.{Pkt}
use Rattle.ff_net.specs.Ways.{Flow}
use Rattle.ff_stream.specs.Lanes.{IsItemFor, IsValid}
use Rattle.ff_stream.specs.Stream.{Stream}
use Rattle.ff_stream.specs.declared.item.Item.{Item}
use Rattle.ff_stream.specs.declared.item.Item.TheVariants.{Audio, Video, Packet, Trailer, End, Broken}
use Rattle.ff_stream.specs.declared.item.Lane.{Lane}
use Rattle.ff_stream.specs.declared.item.Lane.TheVariants.{Packets}
use Rattle.ff_time.specs.Fraction.{Fraction}
use Rattle.ff_node_mux.specs.laws.Growing.{fits_less}
use Rattle.ff_node_mux.specs.Muxing.{mixed, size_for}
use Rattle.ff_node_mux.specs.laws.Sizes.{PcmFits, PcmIsShort, WritesBodies}
use Rattle.ff_node_mux.specs.merge.Merges.{Placed, packets_of, placed}
use Rattle.ff_node_mux.proofs.Ones.{mixed_one}
use Rattle.ff_node_mux.proofs.Texts.{small_cause}

block_size : (depth : PcmDepth) (channels : ℕ) → channels ≤ 8 → channels * depth_bytes depth ≤ 32
block_size Bits8 channels few = omega (arith, few)
block_size Bits16 channels few = omega (arith, few)
block_size Bits24 channels few = omega (arith, few)
block_size Bits32 channels few = omega (arith, few)

-- of one packet: at most 65,535 blocks of 32 bytes
packet_size : (coding : Coding) (channels : ℕ) (p : Pkt) → IsPcmCoding coding → channels ≤ 8 → IsCodedSound coding channels p → length p.bytes ≤ 2097120
packet_size (Pcm form) channels p pcm few is =
    subst (λ n. n ≤ 2097120) (sym is.whole_blocks)
    (mul-le is.blocks (channels * depth_bytes form.depth) 65535 32 is.few_blocks (block_size form.depth channels few))
packet_size Flac channels p pcm few is = absurd pcm
packet_size RawVideo channels p pcm few is = absurd pcm

others : (lane : Lane) (x : Item) (xs : List Item) → All (IsItemFor lane) (x ∷ xs) → All (IsItemFor lane) xs
others lane x xs all = λ k d lt. all (suc k) d (omega (arith, lt))

module _ (layout : Layout) (plain : WritesBodies layout) (tb : Fraction) (rate bits channels : ℕ) (codec : Codec) (pcm : IsPcmCodec codec) (few : channels ≤ 8) where
  abbrev lane : Lane
  lane = Packets (AudioHead tb rate bits channels codec)

  body_size : (xs : List Item) → All (IsItemFor lane) xs
      → length (body layout (placed 0 (packets_of xs))) ≤ length xs * 2097120
  body_size [] all = omega arith
  body_size (Packet p ∷ xs) all =
      let rest = body_size xs (others lane (Packet p) xs all) in
      let here = all 0 (Packet p) (omega arith) in
      let one = packet_size (coding_of codec) channels p pcm few here.fits.1 in
      let text : length (layout.text 0 p) ≡ length p.bytes = ap length (plain 0 p) in
      omega (arith, rest, one, text, length-append (layout.text 0 p) (body layout (placed 0 (packets_of xs))))
  body_size (Audio f ∷ xs) all = let rest = body_size xs (others lane (Audio f) xs all) in omega (arith, rest)
  body_size (Video f ∷ xs) all = let rest = body_size xs (others lane (Video f) xs all) in omega (arith, rest)
  body_size (Trailer t ∷ xs) all = let rest = body_size xs (others lane (Trailer t) xs all) in omega (arith, rest)
  body_size (End ∷ xs) all = let rest = body_size xs (others lane End xs all) in omega (arith, rest)
  body_size (Broken ∷ xs) all = let rest = body_size xs (others lane Broken xs all) in omega (arith, rest)

  stream_size : (s : Flow) → IsValid lane s → size_for layout (mixed (tb ∷ []) (s ∷ [])) < 2 ^ 62
  stream_size s v =
      let same : size_for layout (mixed (tb ∷ []) (s ∷ [])) ≡ length (body layout (placed 0 (packets_of s.items))) =
      ap (λ (t : Stream Placed). size_for layout t) (mixed_one tb s) in
      let most = body_size s.items v.shape.each in
      let count = v.few in
      omega (arith, same, most, count)

pub pcm_is_short : PcmIsShort
pcm_is_short layout (AudioHead tb rate bits channels codec) s plain pcm is v = stream_size layout plain tb rate bits channels codec pcm is.1 s v
pcm_is_short layout (VideoHead tb format width height sar_num sar_den) s plain pcm is v = absurd pcm

pub pcm_fits : PcmFits
pcm_fits layout head s plain pcm is v room =
    let short = pcm_is_short layout head s plain pcm is v in
    small_cause layout (mixed (base_of_head head ∷ []) (s ∷ [])) (fits_less layout layout.longest (size_for layout (mixed (base_of_head head ∷ []) (s ∷ []))) (2 ^ 62) (omega (arith, short)) room)
