-- What coding sound as FLAC keeps: the order of streams, their closing, and that they are valid.
use Rattle.std.specs.Prelude.{◌≡◌, ◌≢◌, ℕ, zero, suc, ◌+◌, ◌-◌, ◌*◌, ◌/◌, ◌^◌, ◌<◌, ◌≤◌, ◌⊎◌, ◌||◌, nat_lt, nat_le, ℤ, pos, negsuc, ◌+ℤ◌, ◌<ℤ◌, ◌≤ℤ◌, Bool, true, false, cond, List, [], ◌∷◌, ◌++◌, map, length, take, drop, All, refl}
use Rattle.std.specs.List.{range_with_len}
use Rattle.std.proofs.Common.{inl, inr, ap, sym, ◌∙◌, subst, arith, append_assoc, append-nil, length-append}
use Rattle.std.proofs.lemmas.Bool.Decides.{nat_tests}
use Rattle.std.proofs.lemmas.Int.{ints}
use Rattle.std.proofs.lemmas.List.{length-map, length-take, length-drop}
use Rattle.std.proofs.lemmas.List.Elements.{All-head, All-tail}
use Rattle.std.proofs.Math.Nat.{div-mul-le_self, mul-le-mul_right, mul-div_cancel, le-mul_of_pos_right}
use mathlib.Core.List.{IsPrefix}
use Rattle.ff_time.specs.Fraction.{Fraction, IsBase}
use Rattle.ff_frame.specs.Frame.{audio_frame}
use Rattle.ff_frame.specs.declared.audio.AFrame.{AFrame}
use Rattle.ff_frame.specs.declared.head.Codec.{Codec}
use Rattle.ff_frame.specs.declared.head.StreamHead.{StreamHead}
use Rattle.ff_frame.specs.declared.head.StreamHead.TheVariants.{Audio as AudioHead, Video as VideoHead}
use Rattle.ff_stream.specs.declared.item.Item.{Item}
use Rattle.ff_stream.specs.declared.item.Item.TheVariants.{Audio, Video, Packet, Trailer, End, Broken}
use Rattle.ff_stream.specs.declared.item.Lane.{Lane}
use Rattle.ff_stream.specs.declared.item.Lane.TheVariants.{Frames, Packets}
use Rattle.ff_stream.specs.laws.LaneLaws.{shape_front}
use Rattle.ff_stream.specs.Lanes.{IsItemFor, InOrder, Follows, AreInShape, IsValid, EndsInTime}
use Rattle.ff_stream.specs.Ports.{IsClosed, IsUnbroken}
use Rattle.ff_stream.specs.Stream.{Mark, still_open, whole, broken, LiesBelow, opened, is_whole}
use Rattle.ff_stream.specs.Times.{end_of, ticks}
use Rattle.ff_stream.specs.Within.{some_pass, before_pass, within}
use Rattle.ff_stream.specs.laws.WithinLaws.{before_pass-prefix, within_monotone, within_calm}
use Rattle.ff_flac_enc.specs.Gathered.{all_samples, full_size, count_due, block_at, blocks_due, EndInTime}
use Rattle.ff_flac_enc.specs.Totals.{sample_frames}
use Rattle.ff_flac_enc.proofs.GatherLaws.{stays}
use Rattle.ff_net.specs.Ways.{Flow}
use Rattle.ff_node_flac.specs.Packets.{at_coded, packet_of, packets_from, trailer_of, items_of}
use Rattle.ff_node_flac.specs.Coding.{CanCode, coded_head, and_sound, sounds, blocks_in, all_coded, passes_in_flac, flac_coded, is_long}

-- ---- the frames among items

and_more : (x : Item) (fs gs : List AFrame) → and_sound x (fs ++ gs) ≡ and_sound x fs ++ gs
and_more (Audio f) fs gs = refl
and_more (Video f) fs gs = refl
and_more (Packet p) fs gs = refl
and_more (Trailer t) fs gs = refl
and_more End fs gs = refl
and_more Broken fs gs = refl

pub sounds_more : (xs ys : List Item) → sounds (xs ++ ys) ≡ sounds xs ++ sounds ys
sounds_more [] ys = refl
sounds_more (x ∷ xs) ys = ap (λ (fs : List AFrame). and_sound x fs) (sounds_more xs ys) ∙ and_more x (sounds xs) (sounds ys)

sounds_of : (gs : List AFrame) → sounds (map Audio gs) ≡ map at_coded gs
sounds_of [] = refl
sounds_of (g ∷ gs) = ap (λ (fs : List AFrame). at_coded g ∷ fs) (sounds_of gs)

-- ---- packets

pub packets_more : (n : ℕ) (xs ys : List AFrame) → packets_from n (xs ++ ys) ≡ packets_from n xs ++ packets_from (n + length xs) ys
packets_more n [] ys = let e : n ≡ n + 0 = omega arith in ap (λ (k : ℕ). packets_from k ys) e
packets_more n (x ∷ xs) ys =
    let e : (n + 1) + length xs ≡ n + length (x ∷ xs) = omega arith in
    ap (λ (zs : List Item). Packet (packet_of x n) ∷ zs) (packets_more (n + 1) xs ys ∙ ap (λ (k : ℕ). packets_from (n + 1) xs ++ packets_from k ys) e)

pub items_above : (ended : Bool) (xs ys : List AFrame) → IsPrefix xs ys → IsPrefix (packets_from 0 xs) (items_of ended ys)
items_above ended xs ys p = (
  packets_from (0 + length xs) p.0 ++ trailer_of ended ys,
  sym (append_assoc (packets_from 0 xs) (packets_from (0 + length xs) p.0) (trailer_of ended ys))
      ∙ ap (λ (zs : List Item). zs ++ trailer_of ended ys) (sym (packets_more 0 xs p.0) ∙ ap (packets_from 0) p.1),
)

open_items : (blocks : List AFrame) → items_of false blocks ≡ packets_from 0 blocks
open_items blocks = append-nil (packets_from 0 blocks)

-- ---- limits

module _ {A : Type 0} (passes : ℕ → A → Bool) where
  -- where one passes, it still does when more comes
  pub still_passes : (n : ℕ) (xs ys : List A) → some_pass passes n xs ≡ true → some_pass passes n (xs ++ ys) ≡ true
  still_passes n [] ys e = cc
  still_passes n (x ∷ xs) ys e = pick (passes n x) e (still_passes (n + 1) xs ys)
    where
      pick : (b : Bool) → cond b true (some_pass passes (n + 1) xs) ≡ true → (some_pass passes (n + 1) xs ≡ true → some_pass passes (n + 1) (xs ++ ys) ≡ true)
          → cond b true (some_pass passes (n + 1) (xs ++ ys)) ≡ true
      pick true e rest = refl
      pick false e rest = rest e

all_front : {A : Type 0} (P : A → Type 0) (xs ys : List A) → All P (xs ++ ys) → All P xs
all_front P [] ys a k d lt = absurd (omega (arith, lt))
all_front P (x ∷ xs) ys a zero d lt = a zero d (omega arith)
all_front P (x ∷ xs) ys a (suc k) d lt = all_front P xs ys (λ j e less. a (suc j) e (omega (arith, less))) k d (omega (arith, lt))

all_one : {A : Type 0} (P : A → Type 0) (x : A) (xs : List A) → P x → All P xs → All P (x ∷ xs)
all_one P x xs one all zero d lt = one
all_one P x xs one all (suc k) d lt = all k d (omega (arith, lt))

few_test : (n size : ℕ) → (nat_lt (2 ^ 31) (n + 1) || nat_le (2 ^ 24) size) ≡ false → n + 1 ≤ 2 ^ 31
few_test n size e = grind (arith, nat_tests)

-- no more items than there are numbers, and the totals
few_from : (ended : Bool) (all : List AFrame) (n : ℕ) (blocks : List AFrame) → n ≤ 2 ^ 31
    → n + length (before_pass passes_in_flac n (packets_from n blocks ++ trailer_of ended all)) ≤ 2 ^ 31 + 1
few_from true all n [] le = omega (arith, le)
few_from false all n [] le = omega (arith, le)
few_from ended all n (b ∷ bs) le = pick (passes_in_flac n (Packet (packet_of b n))) refl (λ l. few_from ended all (n + 1) bs l)
  where
    rest : List Item
    rest = before_pass passes_in_flac (n + 1) (packets_from (n + 1) bs ++ trailer_of ended all)

    pick : (t : Bool) → passes_in_flac n (Packet (packet_of b n)) ≡ t → (n + 1 ≤ 2 ^ 31 → (n + 1) + length rest ≤ 2 ^ 31 + 1)
        → n + length (cond t [] (Packet (packet_of b n) ∷ rest)) ≤ 2 ^ 31 + 1
    pick true e more = omega (arith, le)
    pick false e more = let l = more (few_test n _ e) in omega (arith, l)

-- ---- the blocks of a stream

block_is : (f : AFrame) (samples : List ℤ) (k : ℕ)
    → block_at f samples k ≡ audio_frame (f.pts +ℤ pos (4096 * k)) f.rate f.bits f.channels (take (full_size f.channels) (drop (k * full_size f.channels) samples))
unfolding block_at
block_is f samples k = refl

-- block k of so many sample frames
record SpanOf (f : AFrame) (samples : List ℤ) (frames k : ℕ) : Type 0 where
  count : ℕ
  is : sample_frames (block_at f samples k) ≡ count
  starts : (block_at f samples k).pts ≡ f.pts +ℤ pos (4096 * k)
  some : 1 ≤ count
  few : count ≤ 4096
  inside : 4096 * k + count ≤ frames
  full : 4096 * k + 4096 ≤ frames → count ≡ 4096

below_or : (p n : ℕ) → (p < n) ⊎ (n ≤ p)
below_or p zero = inr (omega arith)
below_or zero (suc n) = inl (omega arith)
below_or (suc p) (suc n) = elim (below_or p n) [ inl a ↦ inl (omega arith) | inr b ↦ inr (omega arith) ]

-- a block that is due has a sample
has_sample : (ended : Bool) (size n k : ℕ) → 0 < size → k < count_due size ended n → k * size < n
has_sample true size n k some lt =
    let m = div-mul-le_self (n + (size - 1)) size in
    let r : (k + 1) * size ≤ ((n + (size - 1)) / size) * size = mul-le-mul_right size (omega (arith, lt)) in
    omega (arith, m, r, some)
has_sample false size n k some lt =
    let m = div-mul-le_self n size in
    let r : (k + 1) * size ≤ (n / size) * size = mul-le-mul_right size (omega (arith, lt)) in
    omega (arith, m, r, some)

starts_inside : (ended : Bool) (channels frames k : ℕ) → 1 ≤ channels → k < count_due (full_size channels) ended (frames * channels) → 4096 * k < frames
starts_inside ended channels frames k some lt =
    let s = has_sample ended (full_size channels) (frames * channels) k (omega (arith, some)) lt in
    elim (below_or (4096 * k) frames) [
      | inl l ↦ l
      | inr ge ↦ absurd (let m : frames * channels ≤ (4096 * k) * channels = mul-le-mul_right channels ge in omega (arith, m, s))
    ]

span_of : (ended : Bool) (f : AFrame) (samples : List ℤ) (frames k : ℕ) → 1 ≤ f.channels → length samples ≡ frames * f.channels
    → 4096 * k < frames → SpanOf f samples frames k
span_of ended f samples frames k some long lt =
    let c = f.channels in
    let positive : 0 < c = omega (arith, some) in
    let size = full_size c in
    let cut = take size (drop (k * size) samples) in
    let b_is = block_is f samples k in
    let start = ap (λ (b : AFrame). b.pts) b_is in
    let frames_is : sample_frames (block_at f samples k) ≡ length cut / c = ap sample_frames b_is in
    let t = length-take size (drop (k * size) samples) in
    let d = length-drop (k * size) samples in
    elim (below_or (4096 * k + 4095) frames) as (λ _. SpanOf f samples frames k) [
      | inl l ↦ (
          let m : (4096 * k + 4096) * c ≤ frames * c = mul-le-mul_right c (omega (arith, l)) in
          let n : length cut ≡ 4096 * c = omega (arith, t, d, long, m) in
          record {
            count = 4096;
            is = frames_is ∙ (ap (λ x. x / c) n ∙ mul-div_cancel 4096 positive);
            starts = start;
            some = omega arith;
            few = omega arith;
            inside = omega (arith, l);
            full = λ e. refl;
          }
          )
      | inr ge ↦ (
          let rest = frames - 4096 * k in
          let sum : frames ≡ rest + 4096 * k = omega (arith, lt) in
          let total : frames * c ≡ rest * c + (4096 * k) * c = ap (λ x. x * c) sum ∙ spread rest (4096 * k) c in
          let small : rest * c ≤ 4095 * c = mul-le-mul_right c (omega (arith, ge)) in
          let n : length cut ≡ rest * c = omega (arith, t, d, long, total, small) in
          record {
            count = rest;
            is = frames_is ∙ (ap (λ x. x / c) n ∙ mul-div_cancel rest positive);
            starts = start;
            some = omega (arith, lt);
            few = omega (arith, ge);
            inside = omega (arith, lt);
            full = λ e. absurd (omega (arith, ge, e));
          }
          )
    ]
  where
    spread : (a b c : ℕ) → (a + b) * c ≡ a * c + b * c
    spread a b c = omega arith

-- ---- items in shape

module _ (tb : Fraction) (rate bits channels : ℕ) (codec : Codec) where
  abbrev head : StreamHead
  head = AudioHead tb rate bits channels codec

  abbrev lane : Lane
  lane = Packets (coded_head head)

  -- the frames of items of the lane
  as_sounds : (xs : List Item) → All (IsItemFor (Frames head)) xs → (gs : List AFrame) × (xs ≡ map Audio gs)
  as_sounds [] each = ([], refl)
  as_sounds (x ∷ xs) each = of x (All-head (IsItemFor (Frames head)) x xs each) (as_sounds xs (All-tail (IsItemFor (Frames head)) x xs each))
    where
      of : (y : Item) → IsItemFor (Frames head) y → (gs : List AFrame) × (xs ≡ map Audio gs) → (gs : List AFrame) × (y ∷ xs ≡ map Audio gs)
      of (Audio f) i r = (f ∷ r.0, ap (λ (zs : List Item). Audio f ∷ zs) r.1)
      of (Video f) i r = absurd i.fits
      of (Packet p) i r = absurd i.fits
      of (Trailer t) i r = absurd i.fits
      of End i r = absurd i.fits
      of Broken i r = absurd i.fits

  -- so many sample frames in all, which end no later than the last frame
  record Spans (P : ℤ → Type 0) (f : AFrame) (fs : List AFrame) : Type 0 where
    frames : ℕ
    long : length (all_samples (map at_coded (f ∷ fs))) ≡ frames * channels
    last : ℤ
    holds : P last
    ends : (f.pts +ℤ pos frames) ≤ℤ last

  spans_of : (P : ℤ → Type 0) (f : AFrame) (fs : List AFrame) → All (IsItemFor (Frames head)) (map Audio (f ∷ fs)) → InOrder (Frames head) (map Audio (f ∷ fs))
      → All (λ (x : Item). P (end_of x)) (map Audio (f ∷ fs)) → Spans P f fs
  spans_of P f [] each order ps =
      let fits = (All-head (IsItemFor (Frames head)) (Audio f) [] each).fits in
      let a = fits.audio in
      let same : f.channels ≡ channels = fits.channels_are in
      let some : 0 < f.channels = let s = a.some_channels in omega (arith, s) in
      let own : length f.samples / f.channels ≡ a.sample_frames = ap (λ n. n / f.channels) a.interleaved ∙ mul-div_cancel a.sample_frames some in
      record {
        frames = a.sample_frames;
        long = ap (λ (zs : List ℤ). length zs) (append-nil (at_coded f).samples) ∙ (length-map f.samples _ ∙ (a.interleaved ∙ ap (λ n. a.sample_frames * n) same));
        last = end_of (Audio f);
        holds = All-head (λ (x : Item). P (end_of x)) (Audio f) [] ps;
        ends = omega (arith, ints, own);
      }
  spans_of P f (g ∷ gs) each order ps =
      let fits = (All-head (IsItemFor (Frames head)) (Audio f) (map Audio (g ∷ gs)) each).fits in
      let a = fits.audio in
      let same : f.channels ≡ channels = fits.channels_are in
      let some : 0 < f.channels = let s = a.some_channels in omega (arith, s) in
      let own : length f.samples / f.channels ≡ a.sample_frames = ap (λ n. n / f.channels) a.interleaved ∙ mul-div_cancel a.sample_frames some in
      let r = spans_of P g gs (All-tail (IsItemFor (Frames head)) (Audio f) (map Audio (g ∷ gs)) each) order.1 (All-tail
      (λ (x : Item). P (end_of x)) (Audio f) (map Audio (g ∷ gs)) ps) in
      let apart : (f.pts +ℤ pos (length f.samples / f.channels)) ≤ℤ g.pts = order.0.apart tt in
      let first : length (at_coded f).samples ≡ a.sample_frames * channels = length-map f.samples _ ∙ (a.interleaved ∙ ap (λ n. a.sample_frames * n) same) in
      let ends = r.ends in
      record {
        frames = a.sample_frames + r.frames;
        long = length-append (at_coded f).samples (all_samples (map at_coded (g ∷ gs)))
            ∙ sums (length (at_coded f).samples) (length (all_samples (map at_coded (g ∷ gs)))) a.sample_frames r.frames first r.long;
        last = r.last;
        holds = r.holds;
        ends = omega (arith, ints, own, apart, ends);
      }
    where
      sums : (x y m n : ℕ) → x ≡ m * channels → y ≡ n * channels → x + y ≡ (m + n) * channels
      sums x y m n e f = omega (arith, e, f)

  ticks_less : (x y : ℤ) → x ≤ℤ y → ticks x ≤ ticks y
  ticks_less (pos m) (pos n) le = omega (arith, ints, le)
  ticks_less (negsuc m) (pos n) le = omega arith
  ticks_less (negsuc m) (negsuc n) le = omega arith
  ticks_less (pos m) (negsuc n) le = absurd (omega (arith, ints, le))

  -- the packets of blocks, and what stands behind them
  module _ (f : AFrame) (samples : List ℤ) (frames due : ℕ) (last : ℤ) (not_negative : pos 0 ≤ℤ f.pts) (ends : (f.pts +ℤ pos frames) ≤ℤ last)
      (in_time : ticks last * tb.num ≤ 1000000000 * tb.den) (spans : (k : ℕ) → k < due → SpanOf f samples frames k) where
    abbrev block : ℕ → AFrame
    block k = block_at f samples k

    one_packet : (n k : ℕ) → k < due → IsItemFor lane (Packet (packet_of (block k) n))
    one_packet n k lt =
        let s = spans k lt in
        let starts = s.starts in
        let is = s.is in
        let some = s.some in
        let few = s.few in
        record {
          fits = (refl, record { some_frames = omega (arith, ints, is, some); few_frames = omega (arith, ints, is, few) });
          not_negative = omega (arith, ints, starts, not_negative);
          lasts = λ t. omega (arith, ints, is, some);
        }

    one_in_time : (n k : ℕ) → k < due → EndsInTime lane (Packet (packet_of (block k) n))
    one_in_time n k lt =
        let s = spans k lt in
        let starts = s.starts in
        let is = s.is in
        let inside = s.inside in
        let le : ((block k).pts +ℤ pos (sample_frames (block k))) ≤ℤ last = omega (arith, ints, starts, is, inside, ends) in
        let m : ticks ((block k).pts +ℤ pos (sample_frames (block k))) * tb.num ≤ ticks last * tb.num = mul-le-mul_right tb.num (ticks_less _ last le) in
        omega (arith, m, in_time)

    next_packet : (n k : ℕ) → k + 1 < due → Follows lane (Packet (packet_of (block k) n)) (Packet (packet_of (block (k + 1)) (n + 1)))
    next_packet n k lt =
        let s = spans k (omega (arith, lt)) in
        let t = spans (k + 1) lt in
        let starts = s.starts in
        let later = t.starts in
        let is = s.is in
        let is' = t.is in
        let some = t.some in
        let inside = t.inside in
        let full : s.count ≡ 4096 = s.full (omega (arith, inside, some)) in
        record {
          timed = tt;
          starts = λ h. omega (arith, ints, starts, later);
          ends = λ h. omega (arith, ints, starts, later, is, is', full);
          apart = λ h. omega (arith, ints, starts, later, is, full);
        }

    last_packet : (n k : ℕ) (t : _) → Follows lane (Packet (packet_of (block k) n)) (Trailer t)
    last_packet n k t = record { timed = tt; starts = λ h. absurd h; ends = λ h. absurd h; apart = λ h. absurd h }

    each_from : (P : Item → Type 0) → ((n k : ℕ) → k < due → P (Packet (packet_of (block k) n))) → (tail : List Item) → All P tail
        → (n a c : ℕ) → a + c ≤ due → All P (packets_from n (map block (range_with_len a c)) ++ tail)
    each_from P h tail all n a zero le = all
    each_from P h tail all n a (suc c) le =
        all_one P (Packet (packet_of (block a) n)) (packets_from (n + 1) (map block (range_with_len (a + 1) c)) ++ tail) (h n a (omega (arith, le)))
        (each_from P h tail all (n + 1) (a + 1) c (omega (arith, le)))

    order_from : (ended : Bool) (all : List AFrame) (n a c : ℕ) → a + c ≤ due → InOrder lane (packets_from n (map block (range_with_len a c)) ++ trailer_of ended all)
    order_from true all n a zero le = tt
    order_from false all n a zero le = tt
    order_from true all n a (suc zero) le = (last_packet n a _, tt)
    order_from false all n a (suc zero) le = tt
    order_from ended all n a (suc (suc c)) le =
        (next_packet n a (omega (arith, le)), order_from ended all (n + 1) (a + 1) (suc c) (omega (arith, le)))

  -- the items that all frames are coded to are as the lane carries them
  record AreCarried (xs : List Item) : Type 0 where
    shape : AreInShape lane xs
    in_time : All (EndsInTime lane) xs

  tail_carried : (ended : Bool) (all : List AFrame) → AreCarried (trailer_of ended all)
  tail_carried true all = record {
    shape = record {
      each = all_one (IsItemFor lane) (Trailer _) [] (record { fits = tt; not_negative = omega (arith, ints); lasts = λ t. absurd t })
          (λ k d lt. absurd (omega (arith, lt)));
      in_order = tt;
    };
    in_time = all_one (EndsInTime lane) (Trailer _) [] (omega arith) (λ k d lt. absurd (omega (arith, lt)));
  }
  tail_carried false all = record { shape = record { each = λ k d lt. absurd (omega (arith, lt)); in_order = tt }; in_time = λ k d lt. absurd (omega (arith, lt)) }

  abbrev InTime : ℤ → Type 0
  InTime z = ticks z * tb.num ≤ 1000000000 * tb.den

  frames_carried : (ended : Bool) (gs : List AFrame) → All (IsItemFor (Frames head)) (map Audio gs) → InOrder (Frames head) (map Audio gs)
      → All (EndsInTime (Frames head)) (map Audio gs) → AreCarried (items_of ended (blocks_due ended (map at_coded gs)))
  frames_carried ended [] each order ends = tail_carried ended []
  frames_carried ended (f ∷ fs) each order ends =
      let first = All-head (IsItemFor (Frames head)) (Audio f) (map Audio fs) each in
      let same : f.channels ≡ channels = first.fits.channels_are in
      let some : 1 ≤ f.channels = first.fits.audio.some_channels in
      let r = spans_of InTime f fs each order ends in
      let samples = all_samples (map at_coded (f ∷ fs)) in
      let due = count_due (full_size f.channels) ended (length samples) in
      let long : length samples ≡ r.frames * f.channels = r.long ∙ ap (λ n. r.frames * n) (sym same) in
      let spans : (k : ℕ) → k < due → SpanOf (at_coded f) samples r.frames k =
      λ k lt. span_of ended (at_coded f) samples r.frames k some long
      (starts_inside ended f.channels r.frames k some (subst (λ n. k < count_due (full_size f.channels) ended n) long lt)) in
      let blocks = map (block_at (at_coded f) samples) (range_with_len 0 due) in
      let tail = tail_carried ended blocks in
      let le : 0 + due ≤ due = omega arith in
      record {
        shape = record {
          each = each_from (at_coded f) samples r.frames due r.last first.not_negative r.ends r.holds spans (IsItemFor lane)
              (one_packet (at_coded f) samples r.frames due r.last first.not_negative r.ends r.holds spans) (trailer_of ended blocks) tail.shape.each 0 0 due le;
          in_order = order_from (at_coded f) samples r.frames due r.last first.not_negative r.ends r.holds spans ended blocks 0 0 due le;
        };
        in_time = each_from (at_coded f) samples r.frames due r.last first.not_negative r.ends r.holds spans (EndsInTime lane)
            (one_in_time (at_coded f) samples r.frames due r.last first.not_negative r.ends r.holds spans) (trailer_of ended blocks) tail.in_time 0 0 due le;
      }

  stream_carried : (s : Flow) → IsValid (Frames head) s → AreCarried (all_coded s).items
  stream_carried s v =
      let g = as_sounds s.items v.shape.each in
      let e = frames_carried (is_whole s.mark) g.0
      (subst (λ (xs : List Item). All (IsItemFor (Frames head)) xs) g.1 v.shape.each)
      (subst (λ (xs : List Item). InOrder (Frames head) xs) g.1 v.shape.in_order)
      (subst (λ (xs : List Item). All (EndsInTime (Frames head)) xs) g.1 v.in_time) in
      let same : map at_coded g.0 ≡ sounds s.items = sym (ap sounds g.1 ∙ sounds_of g.0) in
      subst (λ (fs : List AFrame). AreCarried (items_of (is_whole s.mark) (blocks_due (is_whole s.mark) fs))) same e

  sound_valid : (s : Flow) → IsValid (Frames head) s → IsValid lane (flac_coded s)
  sound_valid s v =
      let c = stream_carried s v in
      let front = before_pass-prefix passes_in_flac 0 (all_coded s).items in
      let few = few_from (is_whole s.mark) (blocks_in s) 0 (blocks_in s) (omega arith) in
      record {
        shape = shape_front lane (before_pass passes_in_flac 0 (all_coded s).items) (all_coded s).items front c.shape;
        few = omega (arith, few);
        in_time = all_front (EndsInTime lane) (before_pass passes_in_flac 0 (all_coded s).items) front.0
            (subst (λ (xs : List Item). All (EndsInTime lane) xs) (sym front.1) c.in_time);
      }

  -- the first frame has a channel
  first_channel : (xs : List Item) (f : AFrame) (fs : List AFrame) → All (IsItemFor (Frames head)) xs → sounds xs ≡ f ∷ fs → 1 ≤ f.channels
  first_channel xs f fs each e =
      let g = as_sounds xs each in
      by g.0 (subst (λ (ys : List Item). All (IsItemFor (Frames head)) ys) g.1 each) (sym (ap sounds g.1 ∙ sounds_of g.0) ∙ e)
    where
      by : (gs : List AFrame) → All (IsItemFor (Frames head)) (map Audio gs) → map at_coded gs ≡ f ∷ fs → 1 ≤ f.channels
      by [] all same = cc
      by (g ∷ gs) all same =
          let here : at_coded g ≡ f = cc (same) in
          let some : 1 ≤ g.channels = (All-head (IsItemFor (Frames head)) (Audio g) (map Audio gs) all).fits.audio.some_channels in
          subst (λ (x : AFrame). 1 ≤ x.channels) here some

  due_above : (fs gs : List AFrame) (ended : Bool) → ((f : AFrame) (rest : List AFrame) → fs ≡ f ∷ rest → 1 ≤ f.channels)
      → IsPrefix (blocks_due false fs) (blocks_due ended (fs ++ gs))
  due_above [] gs ended some = (blocks_due ended gs, refl)
  due_above (f ∷ fs) gs ended some = stays f fs gs ended (some f fs refl)

  -- what is due of an open stream is due of all further on
  open_above : (r s : Flow) → IsValid (Frames head) r → r.mark ≡ still_open → (p : IsPrefix r.items s.items) → LiesBelow (all_coded r) (all_coded s)
  open_above r s v o p =
      let not_yet : is_whole r.mark ≡ false = ap is_whole o in
      let due : IsPrefix (blocks_due false (sounds r.items)) (blocks_in s) =
      subst (λ (fs : List AFrame). IsPrefix (blocks_due false (sounds r.items)) (blocks_due (is_whole s.mark) fs)) (sym (sounds_more r.items p.0) ∙ ap sounds p.1)
      (due_above (sounds r.items) (sounds p.0) (is_whole s.mark) (λ f fs e. first_channel r.items f fs v.shape.each e)) in
      let here : packets_from 0 (blocks_due false (sounds r.items)) ≡ (all_coded r).items =
      sym (ap (λ (b : Bool). items_of b (blocks_due b (sounds r.items))) not_yet ∙ open_items (blocks_due false (sounds r.items))) in
      inr (o, subst (λ (xs : List Item). IsPrefix xs (all_coded s).items) here (items_above (is_whole s.mark) (blocks_due false (sounds r.items)) (blocks_in s) due))

  sound_above : (r s : Flow) → IsValid (Frames head) r → LiesBelow r s → LiesBelow (all_coded r) (all_coded s)
  sound_above r s v (inl e) = inl (ap all_coded e)
  sound_above r s v (inr h) = open_above r s v h.0 h.1

  sound_in_time : (s : Flow) → IsBase tb → IsValid (Frames head) s → EndInTime (sounds s.items)
  sound_in_time s base v =
      let g = as_sounds s.items v.shape.each in
      subst (λ (fs : List AFrame). EndInTime fs) (sym (ap sounds g.1 ∙ sounds_of g.0))
      (by g.0 (subst (λ (xs : List Item). All (IsItemFor (Frames head)) xs) g.1 v.shape.each)
      (subst (λ (xs : List Item). InOrder (Frames head) xs) g.1 v.shape.in_order)
      (subst (λ (xs : List Item). All (EndsInTime (Frames head)) xs) g.1 v.in_time))
    where
      below : (z : ℤ) → ticks z * tb.num ≤ 1000000000 * tb.den → z <ℤ pos (2 ^ 62)
      below (pos n) le = let some = base.num_positive in let small = base.den_small in let m = le-mul_of_pos_right {m = tb.num} n some in omega
          (arith, ints, m, small, le)
      below (negsuc n) le = omega (arith, ints)

      by : (gs : List AFrame) → All (IsItemFor (Frames head)) (map Audio gs) → InOrder (Frames head) (map Audio gs) → All (EndsInTime (Frames head)) (map Audio gs)
          → EndInTime (map at_coded gs)
      by [] each order ends = tt
      by (f ∷ fs) each order ends =
          let first = All-head (IsItemFor (Frames head)) (Audio f) (map Audio fs) each in
          let same : f.channels ≡ channels = first.fits.channels_are in
          let some : 0 < f.channels = let s = first.fits.audio.some_channels in omega (arith, s) in
          let r = spans_of (λ z. z <ℤ pos (2 ^ 62)) f fs each order (λ k d lt. below _ (ends k d lt)) in
          let count : length (all_samples (map at_coded (f ∷ fs))) / f.channels ≡ r.frames =
          ap (λ n. n / f.channels) (r.long ∙ ap (λ n. r.frames * n) (sym same)) ∙ mul-div_cancel r.frames some in
          let e = r.ends in
          let l = r.holds in
          omega (arith, ints, count, e, l)

-- ---- any stream of sound

-- the samples of valid frames end in time
pub coded_in_time : (head : StreamHead) (s : Flow) → CanCode head → IsValid (Frames head) s → EndInTime (sounds s.items)
coded_in_time (AudioHead tb rate bits channels codec) s can v = sound_in_time tb rate bits channels codec s can.0 v
coded_in_time (VideoHead tb format width height sar_num sar_den) s can v = absurd can

-- valid frames give valid packets
pub coded_valid : (head : StreamHead) (s : Flow) → CanCode head → IsValid (Frames head) s → IsValid (Packets (coded_head head)) (flac_coded s)
coded_valid (AudioHead tb rate bits channels codec) s can v = sound_valid tb rate bits channels codec s v
coded_valid (VideoHead tb format width height sar_num sar_den) s can v = absurd can

pub all_above : (head : StreamHead) (r s : Flow) → CanCode head → IsValid (Frames head) r → LiesBelow r s → LiesBelow (all_coded r) (all_coded s)
all_above (AudioHead tb rate bits channels codec) r s can v b = sound_above tb rate bits channels codec r s v b
all_above (VideoHead tb format width height sar_num sar_den) r s can v b = absurd can

-- streams further on give streams further on
pub coded_above : (head : StreamHead) (r s : Flow) → CanCode head → IsValid (Frames head) r → LiesBelow r s → LiesBelow (flac_coded r) (flac_coded s)
coded_above head r s can v b = within_monotone passes_in_flac (all_coded r) (all_coded s) (all_above head r s can v b)

-- what is too long stays so
pub long_stays : (head : StreamHead) (r s : Flow) → CanCode head → IsValid (Frames head) r → LiesBelow r s → is_long r ≡ true → is_long s ≡ true
long_stays head r s can v b e = from (all_above head r s can v b)
  where
    from : LiesBelow (all_coded r) (all_coded s) → is_long s ≡ true
    from (inl same) = ap (λ (x : Flow). some_pass passes_in_flac 0 x.items) (sym same) ∙ e
    from (inr h) = subst (λ (xs : List Item). some_pass passes_in_flac 0 xs ≡ true) h.1.1 (still_passes passes_in_flac 0 (all_coded r).items h.1.0 e)

opened_all : (xs : List Item) (m : Mark) → opened (all_coded (record { items = xs; mark = m })) ≡ all_coded (opened (record { items = xs; mark = m }))
opened_all xs still_open = refl
opened_all xs whole = refl
opened_all xs broken = refl

-- whoever isn't told of a break gets no less
pub coded_calm : (s : Flow) → LiesBelow (opened (flac_coded s)) (flac_coded (opened s))
coded_calm s = subst (λ (x : Flow). LiesBelow (opened (flac_coded s)) (within passes_in_flac x)) (opened_all s.items s.mark) (within_calm passes_in_flac (all_coded s))

cut_closed : (b : Bool) (m : Mark) → m ≢ still_open → cond b broken m ≢ still_open
cut_closed true m c = λ e. cc
cut_closed false m c = c

-- where the frames close, so do the packets
pub coded_closed : (s : Flow) → IsClosed s → IsClosed (flac_coded s)
coded_closed s c = cut_closed (is_long s) s.mark c

cut_unbroken : (b : Bool) (m : Mark) → b ≡ false → m ≢ broken → cond b broken m ≢ broken
cut_unbroken true m e u = absurd cc
cut_unbroken false m e u = u

-- nothing breaks off by itself but what is too long
pub coded_unbroken : (s : Flow) → is_long s ≡ false → IsUnbroken s → IsUnbroken (flac_coded s)
coded_unbroken s e u = cut_unbroken (is_long s) s.mark e u
