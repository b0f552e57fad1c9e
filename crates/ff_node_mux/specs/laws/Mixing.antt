-- Streams further on are mixed to a stream further on, and breaks aren't seen in it.
use Rattle.std.specs.Prelude.{◌≡◌, ℕ, zero, suc, ◌<◌, ◌≤◌, Bool, true, ◌&&◌, List, [], ◌∷◌, ◌++◌, map, length, refl}
use Rattle.std.proofs.Common.{inl, inr, ap, sym, ◌∙◌, subst, arith}
use Rattle.std.proofs.lemmas.Bool.{cases_Bool, cases_eq, and_from, and_parts}
use Rattle.ff_time.specs.Fraction.{Fraction}
use Rattle.ff_frame.specs.declared.head.StreamHead.{StreamHead}
use Rattle.ff_frame.specs.declared.packet.Pkt.{Pkt}
use Rattle.ff_stream.specs.declared.item.Item.{Item}
use Rattle.ff_stream.specs.declared.item.Item.TheVariants.{Audio, Video, Packet, Trailer, End, Broken}
use Rattle.ff_stream.specs.declared.item.Lane.TheVariants.{Packets as PacketLane}
use Rattle.ff_stream.specs.Lanes.{IsValid}
use Rattle.ff_stream.specs.Stream.{Mark, still_open, whole, broken, LiesBelow, opened, opened_mark, is_whole}
use Rattle.ff_stream.specs.laws.Order.{same_stream, closed_below, stream_at-opened}
use Rattle.ff_stream.specs.Ports.{nothing, stream_at, AllBelow, IsWhole}
use Rattle.ff_node_mux.specs.merge.Merges.{packets_of, packets_in}
use Rattle.ff_node_mux.specs.merge.Queues.{base_at}
use Rattle.ff_node_mux.specs.laws.merge.Alike.{interleaved_alike}
use Rattle.ff_node_mux.specs.laws.merge.Ordered.{stays}
use Rattle.ff_net.specs.Ways.{Flow, lane_at, IsValidOn, AreValid}
use Rattle.ff_node_mux.specs.Muxing.{head_bases, head_lanes, packets_at, are_whole, whole_if, mixed, totals_of, totals_in}

-- ---- whole streams

is_whole_by : (m : Mark) → m ≡ whole → is_whole m ≡ true
is_whole_by m e = ap is_whole e

whole_is : (m : Mark) → is_whole m ≡ true → m ≡ whole
whole_is still_open e = cc
whole_is whole e = refl
whole_is broken e = cc

pub whole_from : (n : ℕ) (ss : List Flow) → ((p : ℕ) → p < n → IsWhole (stream_at ss p)) → are_whole n ss ≡ true
whole_from zero ss h = refl
whole_from (suc n) ss h =
    and_from (are_whole n ss) (is_whole (stream_at ss n).mark) (whole_from n ss (λ p lt. h p (omega (arith, lt))))
    (is_whole_by (stream_at ss n).mark (h n (omega arith)))

pub whole_to : (n : ℕ) (ss : List Flow) → are_whole n ss ≡ true → (p : ℕ) → p < n → IsWhole (stream_at ss p)
whole_to zero ss h p lt = absurd (omega (arith, lt))
whole_to (suc n) ss h p lt =
    let b = and_parts (are_whole n ss) (is_whole (stream_at ss n).mark) h in
    elim (cases_eq p n) as (λ _. IsWhole (stream_at ss p)) [
      | inl same ↦ subst (λ q. IsWhole (stream_at ss q)) (sym same) (whole_is (stream_at ss n).mark b.1)
      | inr ne ↦ whole_to n ss b.0 p (omega (arith, lt, ne))
    ]

whole_alike : (n : ℕ) (rs ss : List Flow) → ((q : ℕ) → q < n → is_whole (stream_at rs q).mark ≡ is_whole (stream_at ss q).mark)
    → are_whole n rs ≡ are_whole n ss
whole_alike zero rs ss h = refl
whole_alike (suc n) rs ss h =
    ap (λ (b : Bool). b && is_whole (stream_at rs n).mark) (whole_alike n rs ss (λ q lt. h q (omega (arith, lt))))
    ∙ ap (λ (b : Bool). are_whole n ss && b) (h n (omega arith))

-- ---- what is mixed goes by the items, and by which streams are whole

mixed_by : (bases : List Fraction) (rs ss : List Flow) → ((q : ℕ) → q < length bases → (stream_at rs q).items ≡ (stream_at ss q).items)
    → ((q : ℕ) → q < length bases → is_whole (stream_at rs q).mark ≡ is_whole (stream_at ss q).mark) → mixed bases rs ≡ mixed bases ss
mixed_by bases rs ss items marks =
    same_stream (mixed bases rs) (mixed bases ss)
    (interleaved_alike (base_at bases) (length bases) (packets_at rs) (packets_at ss) (λ q lt. ap packets_of (items q lt)) marks)
    (ap whole_if (whole_alike (length bases) rs ss marks))

pub mixed_alike : (bases : List Fraction) (rs ss : List Flow) → ((q : ℕ) → q < length bases → stream_at rs q ≡ stream_at ss q)
    → mixed bases rs ≡ mixed bases ss
mixed_alike bases rs ss h =
    mixed_by bases rs ss (λ q lt. ap (λ (s : Flow). s.items) (h q lt)) (λ q lt. ap (λ (s : Flow). is_whole s.mark) (h q lt))

pub totals_alike : (bases : List Fraction) (rs ss : List Flow) → ((q : ℕ) → q < length bases → stream_at rs q ≡ stream_at ss q)
    → totals_in bases rs ≡ totals_in bases ss
totals_alike [] rs ss h = refl
totals_alike (base ∷ bases) rs ss h = ap totals_of (h 0 (omega arith))

-- nobody who isn't told of breaks sees other packets
opened_whole : (m : Mark) → is_whole (opened_mark m) ≡ is_whole m
opened_whole still_open = refl
opened_whole whole = refl
opened_whole broken = refl

pub mixed_opened : (bases : List Fraction) (ss : List Flow) → mixed bases (map opened ss) ≡ mixed bases ss
mixed_opened bases ss =
    mixed_by bases (map opened ss) ss (λ q lt. ap (λ (s : Flow). s.items) (stream_at-opened ss q))
    (λ q lt. ap (λ (s : Flow). is_whole s.mark) (stream_at-opened ss q) ∙ opened_whole (stream_at ss q).mark)

pub totals_opened : (bases : List Fraction) (ss : List Flow) → totals_in bases (map opened ss) ≡ totals_in bases ss
totals_opened [] ss = refl
totals_opened (base ∷ bases) ss = ap totals_of (stream_at-opened ss 0)

-- ---- streams further on

packets_more : (xs ys : List Item) → packets_of (xs ++ ys) ≡ packets_of xs ++ packets_of ys
packets_more [] ys = refl
packets_more (Audio f ∷ xs) ys = packets_more xs ys
packets_more (Video f ∷ xs) ys = packets_more xs ys
packets_more (Packet p ∷ xs) ys = ap (λ (ps : List Pkt). p ∷ ps) (packets_more xs ys)
packets_more (Trailer t ∷ xs) ys = packets_more xs ys
packets_more (End ∷ xs) ys = packets_more xs ys
packets_more (Broken ∷ xs) ys = packets_more xs ys

packets_below : (r s : Flow) → LiesBelow r s → LiesBelow (packets_in r) (packets_in s)
packets_below r s (inl e) = inl (ap packets_in e)
packets_below r s (inr b) = inr (b.0, (packets_of b.1.0, sym (packets_more r.items b.1.0) ∙ ap packets_of b.1.1))

-- a stream below a whole one is one, where it is whole
stays_whole : (r s : Flow) → LiesBelow r s → IsWhole r → r ≡ s
stays_whole r s b w = closed_below r s b (λ o. let e : still_open ≡ whole = sym o ∙ w in cc)

-- the first n streams, each of which is whole, are those further on
pub same_whole : (n : ℕ) (rs ss : List Flow) → AllBelow rs ss → are_whole n rs ≡ true → (q : ℕ) → q < n → stream_at rs q ≡ stream_at ss q
same_whole n rs ss b w q lt = stays_whole (stream_at rs q) (stream_at ss q) (b q) (whole_to n rs w q lt)

pub mixed_grows : (bases : List Fraction) (rs ss : List Flow) → AllBelow rs ss → LiesBelow (mixed bases rs) (mixed bases ss)
mixed_grows bases rs ss b = elim (cases_Bool (are_whole (length bases) rs)) as (λ _. LiesBelow (mixed bases rs) (mixed bases ss)) [
  | inl w ↦ inl (mixed_alike bases rs ss (same_whole (length bases) rs ss b w))
  | inr o ↦ inr (ap whole_if o, stays (base_at bases) (length bases) (packets_at rs) (packets_at ss) (λ p. packets_below (stream_at rs p) (stream_at ss p) (b p)))
]

-- ---- streams that aren't there

pub bases_long : (heads : List StreamHead) → length (head_bases heads) ≡ length heads
bases_long [] = refl
bases_long (head ∷ heads) = ap suc (bases_long heads)

pub lanes_long : (heads : List StreamHead) → length (head_lanes heads) ≡ length heads
lanes_long [] = refl
lanes_long (head ∷ heads) = ap suc (lanes_long heads)

no_lane : (heads : List StreamHead) (p : ℕ) (s : Flow) → length (head_bases heads) ≤ p → IsValidOn (lane_at (head_lanes heads) p) s → s ≡ nothing
no_lane [] p s le v = v
no_lane (head ∷ heads) zero s le v = absurd (omega (arith, le))
no_lane (head ∷ heads) (suc p) s le v = no_lane heads p s (omega (arith, le)) v

-- behind the last input nothing comes
pub valid_behind : (heads : List StreamHead) (ss : List Flow) → AreValid (head_lanes heads) ss → (p : ℕ) → length (head_bases heads) ≤ p
    → stream_at ss p ≡ nothing
valid_behind heads ss v p le = no_lane heads p (stream_at ss p) le (v p)

-- what comes on an input that is there is valid for packets of its head
pub valid_there : (heads : List StreamHead) (p : ℕ) (s : Flow) → p < length (head_bases heads) → IsValidOn (lane_at (head_lanes heads) p) s
    → (head : StreamHead) × IsValid (PacketLane head) s
valid_there [] p s lt v = absurd (omega (arith, lt))
valid_there (head ∷ heads) zero s lt v = (head, v)
valid_there (head ∷ heads) (suc p) s lt v = valid_there heads p s (omega (arith, lt)) v
