-- The packets of a body of PCM are in shape for their lane.
use Rattle.std.specs.Prelude.{◌≡◌, ℕ, zero, suc, ◌+◌, ◌-◌, ◌*◌, ◌<◌, ◌≤◌, min, List, take, drop, map, length, All, refl}
use Rattle.std.specs.List.{range_with_len}
use Rattle.std.proofs.Common.{arith, inl}
use Rattle.std.proofs.lemmas.Int.{ints}
use Rattle.std.proofs.lemmas.List.{length-take, length-drop}
use Rattle.std.proofs.lemmas.List.Elements.{All-nil}
use Rattle.std.proofs.Math.Nat.{div-mul-le_self, mul-le-mul_right}
use Rattle.ff_time.specs.Fraction.{Fraction}
use Rattle.ff_frame.specs.declared.head.Codec.{Codec}
use Rattle.ff_frame.specs.declared.head.StreamHead.{StreamHead}
use Rattle.ff_frame.specs.declared.head.StreamHead.TheVariants.{Audio as AudioHead, Video as VideoHead}
use Rattle.ff_stream.specs.declared.item.Item.{Item}
use Rattle.ff_stream.specs.declared.item.Item.TheVariants.{Packet}
use Rattle.ff_stream.specs.declared.item.Lane.{Lane}
use Rattle.ff_stream.specs.declared.item.Lane.TheVariants.{Packets}
use Rattle.ff_frame.specs.laws.PcmLaws.{packet_pcm}
use Rattle.ff_frame.specs.Codecs.{IsPcmCodec, sample_bytes}
use Rattle.ff_stream.specs.Lanes.{IsItemFor, InOrder, Follows, AreInShape}
use Rattle.ff_pcm.specs.body.Packets.{block_of, frames, packet_at, packet_count, packets_of, body, whole_len, IsStream}
use Rattle.ff_pcm.specs.body.Cuts.{pcm_cutter}
use Rattle.ff_input.specs.laws.Owed.{Owes}
use Rattle.ff_input.specs.laws.Shapes.{IsShaped, all_first}
use Rattle.ff_input.specs.laws.Streams.{HasStreams}

module _ (tb : Fraction) (rate bits channels : ℕ) (codec : Codec) (coded : IsPcmCodec codec) (start : ℕ) (xs : List ℕ) where
  abbrev lane : Lane
  lane = Packets (AudioHead tb rate bits channels codec)

  abbrev block : ℕ
  block = channels * sample_bytes codec

  -- the packet of this number
  abbrev item : ℕ → Item
  item k = Packet (packet_at start block xs (1024 * k))

  fits_bytes : (first n : ℕ) → first + n ≤ frames block xs → length (take (n * block) (drop (first * block) xs)) ≡ n * block
  fits_bytes first n le =
      let there : (first + n) * block ≤ length xs = omega (arith, mul-le-mul_right block le, div-mul-le_self (length xs) block) in
      let split : (first + n) * block ≡ first * block + n * block = omega arith in
      omega (arith, length-take (n * block) (drop (first * block) xs), length-drop (first * block) xs, there, split)

  item_for : (k : ℕ) → 1024 * k < frames block xs → IsItemFor lane (item k)
  unfolding packet_at
  item_for k lt =
      let n = min 1024 (frames block xs - 1024 * k) in
      let some : 1 ≤ n = omega (arith, lt) in
      let few : n ≤ 1024 = omega arith in
      let inside : 1024 * k + n ≤ frames block xs = omega (arith, lt) in
      record {
        fits = (refl, packet_pcm codec channels (packet_at start block xs (1024 * k)) coded (record { blocks = n; some_blocks = some; few_blocks = omega (arith, few); whole_blocks = fits_bytes (1024 * k) n inside; lasts = refl }));
        not_negative = omega (arith, ints);
        lasts = λ t. omega (arith, ints, some);
      }

  follows : (k : ℕ) → 1024 * (k + 1) < frames block xs → Follows lane (item k) (item (k + 1))
  unfolding packet_at
  follows k lt = record {
    timed = tt;
    starts = λ t. omega (arith, ints);
    ends = λ t. omega (arith, ints, lt);
    apart = λ t. omega (arith, ints, lt);
  }

  each_from : (a n : ℕ) → a + n ≤ packet_count block xs
      → All (IsItemFor lane) (map Packet (map (λ k. packet_at start block xs (1024 * k)) (range_with_len a n)))
  each_from a zero le = All-nil (IsItemFor lane)
  each_from a (suc n) le = all_first (IsItemFor lane) (item a) (map Packet (map (λ k. packet_at start block xs (1024 * k)) (range_with_len (a + 1) n))) (item_for a (omega (arith, le))) (each_from (a + 1) n (omega (arith, le)))

  order_from : (a n : ℕ) → a + n ≤ packet_count block xs
      → InOrder lane (map Packet (map (λ k. packet_at start block xs (1024 * k)) (range_with_len a n)))
  order_from a zero le = tt
  order_from a (suc zero) le = tt
  order_from a (suc (suc n)) le = (follows a (omega (arith, le)), order_from (a + 1) (suc n) (omega (arith, le)))

  packets_in_shape : AreInShape lane (map Packet (packets_of start block xs))
  packets_in_shape = record { each = each_from 0 (packet_count block xs) (omega arith); in_order = order_from 0 (packet_count block xs) (omega arith) }

in_shape : (head : StreamHead) (start : ℕ) (xs : List ℕ) → IsStream head
    → AreInShape (Packets head) (map Packet (packets_of start (block_of head) xs))
in_shape (AudioHead tb rate bits channels codec) start xs h = packets_in_shape tb rate bits channels codec h.coded start xs
in_shape (VideoHead tb format width height sar_num sar_den) start xs h = absurd h

pcm_shaped : IsShaped pcm_cutter
pcm_shaped head rest h = in_shape head.head head.start (body (whole_len head) rest) h.stream

pcm_streams : HasStreams pcm_cutter
pcm_streams head h = inl h.stream

pub pcm_owes : Owes pcm_cutter
pcm_owes = record { shaped = pcm_shaped; streams = pcm_streams }
