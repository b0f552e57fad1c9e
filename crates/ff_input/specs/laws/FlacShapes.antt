-- The packets of a FLAC input are in shape for their lane, and how much is asked for one.
use Rattle.std.specs.Prelude.{◌≡◌, ℕ, zero, suc, ◌+◌, ◌-◌, ◌≤◌, pos, max, List, [], ◌∷◌, length, map, All, refl}
use Rattle.std.proofs.Common.{sym, subst, ◌∙◌, arith, inl, inr}
use Rattle.std.proofs.lemmas.Int.{ints}
use Rattle.std.proofs.lemmas.List.Elements.{All-nil}
use Rattle.ff_time.specs.Fraction.{Fraction}
use Rattle.ff_frame.specs.declared.packet.Pkt.{Pkt}
use Rattle.ff_frame.specs.declared.head.Codec.{Codec}
use Rattle.ff_frame.specs.declared.head.Codec.TheVariants as codec
use Rattle.ff_frame.specs.declared.head.StreamHead.{StreamHead}
use Rattle.ff_frame.specs.declared.head.StreamHead.TheVariants.{Audio as AudioHead, Video as VideoHead}
use Rattle.ff_stream.specs.declared.item.Item.TheVariants.{Packet}
use Rattle.ff_stream.specs.declared.item.Lane.{Lane}
use Rattle.ff_stream.specs.declared.item.Lane.TheVariants.{Packets}
use Rattle.ff_stream.specs.Lanes.{IsItemFor, InOrder, Follows, AreInShape}
use Rattle.ff_flac_frame.specs.declared.stream.FlacStream.{FlacStream}
use Rattle.ff_flac_frame.specs.Frame.{IsStream}
use Rattle.ff_flac_dec.specs.declared.front.Front.{Front}
use Rattle.ff_flac_dec.specs.declared.front.Front.TheVariants.{Wait, Other, Whole}
use Rattle.ff_flac_dec.specs.Streams.{stream_of, IsFlacHead}
use Rattle.ff_flac_dec.specs.Packets.{unit, packets_from}
use Rattle.ff_flac_dec.specs.declared.cut.FlacCut.{FlacCut}
use Rattle.ff_flac_dec.specs.Cuts.{flac_cutter}
use Rattle.ff_input.specs.laws.Reading.{piece_size}
use Rattle.ff_flac_dec.proofs.UnitLaws.{whole_at, packets_step}
use Rattle.ff_input.specs.laws.Owed.{Owes}
use Rattle.ff_input.specs.laws.Shapes.{IsShaped, all_first}
use Rattle.ff_input.specs.laws.Streams.{HasStreams}

-- a frame from this sample frame on, of so many
record IsAt (n block : ℕ) (p : Pkt) : Type 0 where
  pub starts : p.pts ≡ pos n
  pub decoded : p.dts ≡ pos n
  pub lasts : p.duration ≡ pos block
  pub some : 1 ≤ block
  pub few : block ≤ 65535

-- frames one behind the other, the first from this sample frame on
abbrev AreBehind : ℕ → List Pkt → Type 0
AreBehind n [] = Unit {0}
AreBehind n (p ∷ ps) = (block : ℕ) × IsAt n block p × AreBehind (n + block) ps

are_behind : (s : FlacStream) → IsStream s → (bs : List ℕ) (skip at n : ℕ) → AreBehind n (packets_from s skip at n bs)
are_behind s i [] zero at n = tt
are_behind s i [] (suc skip) at n = tt
are_behind s i (b ∷ bs) (suc skip) at n = are_behind s i bs skip (at + 1) n
are_behind s i (b ∷ bs) zero at n = pick (unit s (b ∷ bs)) refl (λ skip block. are_behind s i bs skip (at + 1) (n + block))
  where
    pick : (front : Front) → unit s (b ∷ bs) ≡ front → ((skip block : ℕ) → AreBehind (n + block) (packets_from s skip (at + 1) (n + block) bs))
        → AreBehind n (packets_step front s at n b bs)
    pick Wait e next = tt
    pick Other e next = tt
    pick (Whole len block) e next =
        let w = whole_at s i (b ∷ bs) len block e in
        (block, record { starts = refl; decoded = refl; lasts = refl; some = w.2; few = w.3 }, next (len - 1) block)

module _ (tb : Fraction) (rate bits channels : ℕ) where
  abbrev lane : Lane
  lane = Packets (AudioHead tb rate bits channels codec.Flac)

  item_for : (n block : ℕ) (p : Pkt) → IsAt n block p → IsItemFor lane (Packet p)
  item_for n block p h = record {
    fits = (
      h.decoded ∙ sym h.starts,
      record { some_frames = omega (arith, ints, h.lasts, h.some); few_frames = omega (arith, ints, h.lasts, h.few) },
    );
    not_negative = omega (arith, ints, h.starts);
    lasts = λ t. omega (arith, ints, h.starts, h.lasts, h.some);
  }

  follows : (n block next : ℕ) (p q : Pkt) → IsAt n block p → IsAt (n + block) next q → Follows lane (Packet p) (Packet q)
  follows n block next p q h i = record {
    timed = tt;
    starts = λ t. omega (arith, ints, h.starts, i.starts, h.some);
    ends = λ t. omega (arith, ints, h.starts, h.lasts, i.starts, i.lasts);
    apart = λ t. omega (arith, ints, h.starts, h.lasts, i.starts);
  }

  each_fits : (n : ℕ) (ps : List Pkt) → AreBehind n ps → All (IsItemFor lane) (map Packet ps)
  each_fits n [] h = All-nil (IsItemFor lane)
  each_fits n (p ∷ ps) h = all_first (IsItemFor lane) (Packet p) (map Packet ps) (item_for n h.0 p h.1) (each_fits (n + h.0) ps h.2)

  in_order : (n : ℕ) (ps : List Pkt) → AreBehind n ps → InOrder lane (map Packet ps)
  in_order n [] h = tt
  in_order n (p ∷ []) h = tt
  in_order n (p ∷ q ∷ ps) h = (follows n h.0 h.2.0 p q h.1 h.2.1, in_order (n + h.0) (q ∷ ps) h.2)

  frames_in_shape : (s : FlacStream) → IsStream s → (start : ℕ) (bs : List ℕ) → AreInShape lane (map Packet (packets_from s 0 start 0 bs))
  frames_in_shape s i start bs =
      let ps = packets_from s 0 start 0 bs in
      let h = are_behind s i bs 0 start 0 in record { each = each_fits 0 ps h; in_order = in_order 0 ps h }

in_shape : (head : StreamHead) → IsFlacHead head → IsStream (stream_of head) → (start : ℕ) (bs : List ℕ)
    → AreInShape (Packets head) (map Packet (packets_from (stream_of head) 0 start 0 bs))
in_shape (AudioHead tb rate bits channels coded) h i start bs =
    let s = stream_of (AudioHead tb rate bits channels coded) in
    let InShape : Codec → Type 0 = λ c. AreInShape (Packets (AudioHead tb rate bits channels c)) (map Packet (packets_from s 0 start 0 bs)) in
    subst InShape (sym h.coded) (frames_in_shape tb rate bits channels s i start bs)
in_shape (VideoHead tb format width height sar_num sar_den) h i start bs = absurd h

flac_shaped : IsShaped flac_cutter
flac_shaped head rest h = in_shape head.head h.sound h.stream head.start rest

-- of FLAC a piece is asked for, or as many bytes as wait where these are more
abbrev pub flac_asks : FlacCut → ℕ
flac_asks cut = max piece_size (length (flac_cutter.waiting cut))

flac_streams : HasStreams flac_cutter
flac_streams head h = inr (inl (h.sound, h.stream))

pub flac_owes : Owes flac_cutter
flac_owes = record { shaped = flac_shaped; streams = flac_streams }
