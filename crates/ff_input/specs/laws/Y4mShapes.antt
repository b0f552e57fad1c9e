-- The packets of a YUV4MPEG2 input are in shape for their lane.
use Rattle.std.specs.Prelude.{◌≡◌, ℕ, zero, suc, ◌+◌, pos, List, [], ◌∷◌, drop, map, length, All, refl}
use Rattle.std.proofs.Common.{sym, ◌∙◌, arith, inr}
use Rattle.std.proofs.lemmas.Int.{ints}
use Rattle.std.proofs.lemmas.List.{length-take, length-drop}
use Rattle.std.proofs.lemmas.List.Elements.{All-nil}
use Rattle.ff_time.specs.Fraction.{Fraction, IsBase}
use Rattle.ff_frame.specs.Heads.{base_of_head}
use Rattle.ff_frame.specs.Video.{frame_size}
use Rattle.ff_frame.specs.declared.packet.Pkt.{Pkt}
use Rattle.ff_frame.specs.declared.video.Format.{Format}
use Rattle.ff_frame.specs.declared.head.StreamHead.{StreamHead}
use Rattle.ff_frame.specs.declared.head.StreamHead.TheVariants.{Audio as AudioHead, Video as VideoHead}
use Rattle.ff_stream.specs.declared.item.Item.TheVariants.{Packet}
use Rattle.ff_stream.specs.declared.item.Lane.{Lane}
use Rattle.ff_stream.specs.declared.item.Lane.TheVariants.{Packets}
use Rattle.ff_stream.specs.Lanes.{IsItemFor, InOrder, Follows, AreInShape}
use Rattle.ff_y4m.specs.declared.frame.Front.{Front}
use Rattle.ff_y4m.specs.declared.frame.Front.TheVariants.{Wait, Other, Frame}
use Rattle.ff_y4m.specs.Packets.{unit, packet_in, packets_from, IsStream}
use Rattle.ff_y4m.specs.Cuts.{y4m_cutter}
use Rattle.ff_y4m.proofs.UnitLaws.{frame_at, packets_step}
use Rattle.ff_input.specs.laws.Owed.{Owes}
use Rattle.ff_input.specs.laws.Shapes.{IsShaped, all_first}
use Rattle.ff_input.specs.laws.Streams.{HasStreams, IsPictures}

-- a frame of this number: it lasts one tick, and has planes of this size
record IsNumbered (size n : ℕ) (p : Pkt) : Type 0 where
  pub starts : p.pts ≡ pos n
  pub decoded : p.dts ≡ pos n
  pub lasts : p.duration ≡ pos 1
  pub planes : length p.bytes ≡ size

-- frames one behind the other, the first with this number
abbrev AreNumbered : ℕ → ℕ → List Pkt → Type 0
AreNumbered size n [] = Unit {0}
AreNumbered size n (p ∷ ps) = IsNumbered size n p × AreNumbered size (n + 1) ps

numbered : (size at n line : ℕ) (bs : List ℕ) → unit size bs ≡ Frame line → IsNumbered size n (packet_in size at n line bs)
numbered size at n line bs e =
    let whole = (frame_at size line bs e).3 in record {
      starts = refl;
      decoded = refl;
      lasts = refl;
      planes = omega (arith, length-take size (drop (line + 1) bs), length-drop (line + 1) bs, whole);
    }

are_numbered : (size : ℕ) (bs : List ℕ) (skip at n : ℕ) → AreNumbered size n (packets_from size skip at n bs)
are_numbered size [] zero at n = tt
are_numbered size [] (suc skip) at n = tt
are_numbered size (b ∷ bs) (suc skip) at n = are_numbered size bs skip (at + 1) n
are_numbered size (b ∷ bs) zero at n = pick (unit size (b ∷ bs)) refl (λ skip. are_numbered size bs skip (at + 1) (n + 1))
  where
    pick : (front : Front) → unit size (b ∷ bs) ≡ front → ((skip : ℕ) → AreNumbered size (n + 1) (packets_from size skip (at + 1) (n + 1) bs))
        → AreNumbered size n (packets_step front size at n b bs)
    pick Wait e next = tt
    pick Other e next = tt
    pick (Frame line) e next = (numbered size at n line (b ∷ bs) e, next (line + size))

module _ (tb : Fraction) (format : Format) (width height sar_num sar_den size : ℕ) (sized : size ≡ frame_size format width height) where
  abbrev lane : Lane
  lane = Packets (VideoHead tb format width height sar_num sar_den)

  item_for : (n : ℕ) (p : Pkt) → IsNumbered size n p → IsItemFor lane (Packet p)
  item_for n p h = record {
    fits = (h.decoded ∙ sym h.starts, h.planes ∙ sized);
    not_negative = omega (arith, ints, h.starts);
    lasts = λ t. omega (arith, ints, h.starts, h.lasts);
  }

  follows : (n : ℕ) (p q : Pkt) → IsNumbered size n p → IsNumbered size (n + 1) q → Follows lane (Packet p) (Packet q)
  follows n p q h i = record {
    timed = tt;
    starts = λ t. omega (arith, ints, h.starts, i.starts);
    ends = λ t. omega (arith, ints, h.starts, h.lasts, i.starts, i.lasts);
    apart = λ t. tt;
  }

  each_fits : (n : ℕ) (ps : List Pkt) → AreNumbered size n ps → All (IsItemFor lane) (map Packet ps)
  each_fits n [] h = All-nil (IsItemFor lane)
  each_fits n (p ∷ ps) h = all_first (IsItemFor lane) (Packet p) (map Packet ps) (item_for n p h.0) (each_fits (n + 1) ps h.1)

  in_order : (n : ℕ) (ps : List Pkt) → AreNumbered size n ps → InOrder lane (map Packet ps)
  in_order n [] h = tt
  in_order n (p ∷ []) h = tt
  in_order n (p ∷ q ∷ ps) h = (follows n p q h.0 h.1.0, in_order (n + 1) (q ∷ ps) h.1)

  frames_in_shape : (start : ℕ) (bs : List ℕ) → AreInShape lane (map Packet (packets_from size 0 start 0 bs))
  frames_in_shape start bs =
      let ps = packets_from size 0 start 0 bs in
      let h = are_numbered size bs 0 start 0 in record { each = each_fits 0 ps h; in_order = in_order 0 ps h }

in_shape : (head : StreamHead) (size start : ℕ) (bs : List ℕ) → IsStream head size
    → AreInShape (Packets head) (map Packet (packets_from size 0 start 0 bs))
in_shape (AudioHead tb rate bits channels codec) size start bs h = absurd h
in_shape (VideoHead tb format width height sar_num sar_den) size start bs h = frames_in_shape tb format width height sar_num sar_den size h.2 start bs

y4m_shaped : IsShaped y4m_cutter
y4m_shaped head rest h = in_shape head.head head.frame_bytes head.start rest h.stream

are_pictures : (head : StreamHead) (size : ℕ) → IsStream head size → IsBase (base_of_head head) → IsPictures head
are_pictures (AudioHead tb rate bits channels codec) size h b = absurd h
are_pictures (VideoHead tb format width height sar_num sar_den) size h b = (h.0, h.1, b)

y4m_streams : HasStreams y4m_cutter
y4m_streams head h = inr (inr (are_pictures head.head head.frame_bytes h.stream h.base))

pub y4m_owes : Owes y4m_cutter
y4m_owes = record { shaped = y4m_shaped; streams = y4m_streams }
