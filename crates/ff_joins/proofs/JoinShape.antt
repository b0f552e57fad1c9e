-- Of valid streams of sound, side by side, the frames are in shape.
use Rattle.std.proofs.Common.{◌≡◌, ℕ, zero, suc, ◌+◌, ◌*◌, ◌/◌, ◌<◌, ◌≤◌, ℤ, pos, ◌+ℤ◌, ◌<ℤ◌, ◌≤ℤ◌, Bool, true, false, cond, List, [], ◌∷◌, ◌++◌}
use Rattle.std.proofs.Common.{take, drop, length, All, refl, ap, sym, ◌∙◌, subst, arith}
use Rattle.std.specs.Prelude.{◌==◌}
use Rattle.std.proofs.lemmas.Int.{ints}
use Rattle.std.proofs.lemmas.Nat.{div-mul-add}
use Rattle.std.proofs.lemmas.List.{length-append, length-drop, length-take, length-take-le}
use Rattle.std.proofs.lemmas.List.Elements.{All-nil, All-cons, All-head, All-tail, All-append, All-push, All-take, All-drop}
use Rattle.std.proofs.Math.Nat.{div-mul-le_self}
use Rattle.ff_time.specs.Fraction.{Fraction}
use Rattle.ff_frame.specs.declared.head.Codec.{Codec}
use Rattle.ff_frame.specs.declared.head.StreamHead.TheVariants.{Audio as AudioHead}
use Rattle.ff_frame.specs.Audio.{FitsBits, IsAudio}
use Rattle.ff_stream.specs.declared.item.Item.{Item}
use Rattle.ff_stream.specs.declared.item.Item.TheVariants.{Audio, Video, Packet, Trailer, End, Broken}
use Rattle.ff_stream.specs.declared.item.Lane.{Lane}
use Rattle.ff_stream.specs.declared.item.Lane.TheVariants.{Frames}
use Rattle.ff_stream.specs.Times.{start_of, end_of}
use Rattle.ff_stream.specs.Stream.{Mark, still_open, whole, broken, Stream}
use Rattle.ff_stream.specs.Lanes.{IsItemFor, Follows, InOrder, AreInShape, IsValid}
use Rattle.ff_filter.specs.Joins.{Ports}
use Rattle.ff_joins.specs.Joined.{Row, split_rows, rows_of, all_rows_of, row_stream, side_by_side, rows_to, join_mark, frames_in, frame_at, frames_to, flattened}
use Rattle.ff_joins.specs.Joined.{first_start, sound_frame, side_to_side}
use Rattle.ff_joins.specs.laws.JoinedLaws.{rows_few}
use Rattle.ff_joins.specs.laws.JoinShapes.{channels_to}

-- one item behind another --------------------------------------------------------------------------------------------------

order_more : (lane : Lane) (xs : List Item) (y z : Item) → InOrder lane (xs ++ y ∷ []) → Follows lane y z → InOrder lane ((xs ++ y ∷ []) ++ z ∷ [])
order_more lane [] y z o f = (f, tt)
order_more lane (x ∷ []) y z o f = (o.0, (f, tt))
order_more lane (x ∷ w ∷ xs) y z o f = (o.0, order_more lane (w ∷ xs) y z o.1 f)

module _ (lane : Lane) (make : ℕ → List Row → Item) (rows : List Row) where
  frames_each : (k : ℕ) → ((i : ℕ) → i < k → IsItemFor lane (frame_at make rows i)) → All (IsItemFor lane) (frames_to make rows k)
  frames_each zero a = All-nil (IsItemFor lane)
  frames_each (suc k) a = All-push (IsItemFor lane) (frames_to make rows k) (frame_at make rows k) (frames_each k (λ i lt. a i (omega (arith, lt)))) (a k (omega arith))

  frames_order : (k : ℕ) → ((i : ℕ) → suc i < k → Follows lane (frame_at make rows i) (frame_at make rows (suc i))) → InOrder lane (frames_to make rows k)
  frames_order zero a = tt
  frames_order (suc zero) a = tt
  frames_order (suc (suc k)) a = order_more lane (frames_to make rows k) (frame_at make rows k) (frame_at make rows (suc k))
      (frames_order (suc k) (λ i lt. a i (omega (arith, lt)))) (a k (omega arith))

-- rows -----------------------------------------------------------------------------------------------------------------------

module _ (bits : ℕ) where
  -- a row of so many samples, each within the bits
  record IsRow (c : ℕ) (r : Row) : Type 0 where
    long : length r ≡ c
    fits : All (FitsBits bits) r

  split_so : (c n : ℕ) (xs : List ℤ) → length xs ≡ n * c → All (FitsBits bits) xs → All (IsRow c) (split_rows c n xs)
  split_so c zero xs e a = All-nil (IsRow c)
  split_so c (suc n) xs e a =
      let s : suc n * c ≡ c + n * c = omega arith in
      let l = length-drop c xs in
      All-cons (IsRow c) (take c xs) (split_rows c n (drop c xs))
      (record { long = length-take-le c xs (omega (arith, e, s)); fits = All-take (FitsBits bits) c xs a })
      (split_so c n (drop c xs) (omega (arith, e, s, l)) (All-drop (FitsBits bits) c xs a))

  side_so : (c d : ℕ) (xs ys : List Row) → All (IsRow c) xs → All (IsRow d) ys → All (IsRow (c + d)) (side_by_side xs ys)
  side_so c d [] ys a b = All-nil (IsRow (c + d))
  side_so c d (x ∷ xs) [] a b = All-nil (IsRow (c + d))
  side_so c d (x ∷ xs) (y ∷ ys) a b =
      let i = All-head (IsRow c) x xs a in
      let j = All-head (IsRow d) y ys b in
      let l = length-append x y in
      let m = i.long in
      let n = j.long in
      All-cons (IsRow (c + d)) (x ++ y) (side_by_side xs ys)
      (record { long = omega (arith, l, m, n); fits = All-append (FitsBits bits) x y i.fits j.fits })
      (side_so c d xs ys (All-tail (IsRow c) x xs a) (All-tail (IsRow d) y ys b))

  flat_fits : (c : ℕ) (rows : List Row) → All (IsRow c) rows → All (FitsBits bits) (flattened rows)
  flat_fits c [] a = All-nil (FitsBits bits)
  flat_fits c (r ∷ rows) a = All-append (FitsBits bits) r (flattened rows) (All-head (IsRow c) r rows a).fits (flat_fits c rows (All-tail (IsRow c) r rows a))

  flat_long : (c : ℕ) (rows : List Row) → All (IsRow c) rows → length (flattened rows) ≡ length rows * c
  flat_long c [] a = omega arith
  flat_long c (r ∷ rows) a =
      let l = length-append r (flattened rows) in
      let m = (All-head (IsRow c) r rows a).long in
      let n = flat_long c rows (All-tail (IsRow c) r rows a) in
      let s : suc (length rows) * c ≡ c + length rows * c = omega arith in
      omega (arith, l, m, n, s)

  rows_so : (channels : ℕ → ℕ) (n : ℕ) (ss : ℕ → Stream Row) → ((p : ℕ) → p < suc n → All (IsRow (channels p)) (ss p).items)
      → All (IsRow (channels_to channels (suc n))) (rows_to n ss)
  rows_so channels zero ss a = let e : channels 0 ≡ 0 + channels 0 = omega arith in subst (λ (c : ℕ). All (IsRow c) (ss 0).items) e (a 0 (omega arith))
  rows_so channels (suc n) ss a = side_so (channels_to channels (suc n)) (channels (suc n)) (rows_to n ss) (ss (suc n)).items
      (rows_so channels n ss (λ p lt. a p (omega (arith, lt)))) (a (suc n) (omega arith))

  module _ (tb : Fraction) (rate c : ℕ) (codec : Codec) where
    item_rows : (x : Item) → IsItemFor (Frames (AudioHead tb rate bits c codec)) x → All (IsRow c) (rows_of c x)
    item_rows (Audio f) i = at (f.channels == c)
      where
        audio : IsAudio f.bits f.channels f.samples
        audio = i.fits.audio

        some : 0 < c
        some = let a = audio.some_channels in let e = i.fits.channels_are in omega (arith, a, e)

        long : length f.samples ≡ audio.sample_frames * c
        long = audio.interleaved ∙ ap (λ (k : ℕ). audio.sample_frames * k) i.fits.channels_are

        count : length f.samples / c ≡ audio.sample_frames
        count = let e : audio.sample_frames * c ≡ audio.sample_frames * c + 0 = omega arith in
            ap (λ (k : ℕ). k / c) (long ∙ e) ∙ div-mul-add audio.sample_frames c 0 some

        fits : All (FitsBits bits) f.samples
        fits = subst (λ (k : ℕ). All (FitsBits k) f.samples) i.fits.bits_are audio.within_bits

        at : (b : Bool) → All (IsRow c) (cond b (split_rows c (length f.samples / c) f.samples) [])
        at true = split_so c (length f.samples / c) f.samples (long ∙ ap (λ (k : ℕ). k * c) (sym count)) fits
        at false = All-nil (IsRow c)
    item_rows (Video f) i = absurd i.fits
    item_rows (Packet p) i = absurd i.fits
    item_rows (Trailer t) i = absurd i.fits
    item_rows End i = absurd i.fits
    item_rows Broken i = absurd i.fits

    all_rows : (xs : List Item) → All (IsItemFor (Frames (AudioHead tb rate bits c codec))) xs → All (IsRow c) (all_rows_of c xs)
    all_rows [] a = All-nil (IsRow c)
    all_rows (x ∷ xs) a = All-append (IsRow c) (rows_of c x) (all_rows_of c xs)
        (item_rows x (All-head (IsItemFor (Frames (AudioHead tb rate bits c codec))) x xs a))
        (all_rows xs (All-tail (IsItemFor (Frames (AudioHead tb rate bits c codec))) x xs a))

    -- where something came, the bits and the channels are within their limits, and the start isn't negative
    record AreSome (start : ℤ) : Type 0 where
      some_bits : 4 ≤ bits
      few_bits : bits ≤ 32
      some_channels : 1 ≤ c
      from : pos 0 ≤ℤ start

    some_facts : (x : Item) → IsItemFor (Frames (AudioHead tb rate bits c codec)) x → AreSome (start_of x)
    some_facts (Audio f) i =
        let b = i.fits.bits_are in
        let e = i.fits.channels_are in
        let lo = i.fits.audio.some_bits in
        let hi = i.fits.audio.few_bits in
        let n = i.fits.audio.some_channels in
        record { some_bits = omega (arith, b, lo); few_bits = omega (arith, b, hi); some_channels = omega (arith, e, n); from = i.not_negative }
    some_facts (Video f) i = absurd i.fits
    some_facts (Packet p) i = absurd i.fits
    some_facts (Trailer t) i = absurd i.fits
    some_facts End i = absurd i.fits
    some_facts Broken i = absurd i.fits

    first_facts : (xs : List Item) → All (IsItemFor (Frames (AudioHead tb rate bits c codec))) xs → 0 < length (all_rows_of c xs) → AreSome (first_start xs)
    first_facts [] a lt = absurd (omega (arith, lt))
    first_facts (x ∷ xs) a lt = some_facts x (All-head (IsItemFor (Frames (AudioHead tb rate bits c codec))) x xs a)

-- frames ---------------------------------------------------------------------------------------------------------------------

rows_left : (m : Mark) (r i : ℕ) → i < frames_in m r → 1024 * i < r
rows_left still_open r i lt = let h = div-mul-le_self r 1024 in omega (arith, lt, h)
rows_left whole r i lt = let h = div-mul-le_self (r + 1023) 1024 in omega (arith, lt, h)
rows_left broken r i lt = let h = div-mul-le_self r 1024 in omega (arith, lt, h)

channels_first : (channels : ℕ → ℕ) (n : ℕ) → channels 0 ≤ channels_to channels (suc n)
channels_first channels zero = omega arith
channels_first channels (suc n) = let h = channels_first channels n in omega (arith, h)

start_zero : (s : ℤ) (k : ℕ) → pos 0 ≤ℤ s → pos 0 ≤ℤ (s +ℤ pos k)
start_zero s k h = omega (arith, ints, h)

lasts_so : (s : ℤ) (k : ℕ) → 1 ≤ k → s <ℤ (s +ℤ pos k)
lasts_so s k h = omega (arith, ints, h)

starts_so : (s : ℤ) (i : ℕ) → (s +ℤ pos (1024 * i)) <ℤ (s +ℤ pos (1024 * suc i))
starts_so s i = let m : 1024 * suc i ≡ 1024 + 1024 * i = omega arith in subst (λ (k : ℕ). (s +ℤ pos (1024 * i)) <ℤ (s +ℤ pos k)) (sym m) (up (1024 * i))
  where
    up : (j : ℕ) → (s +ℤ pos j) <ℤ (s +ℤ pos (1024 + j))
    up j = omega (arith, ints)

apart_so : (s : ℤ) (i k : ℕ) → k ≤ 1024 → (s +ℤ pos (1024 * i) +ℤ pos k) ≤ℤ (s +ℤ pos (1024 * suc i))
apart_so s i k le = let m : 1024 * suc i ≡ 1024 + 1024 * i = omega arith in subst (λ (j : ℕ). (s +ℤ pos (1024 * i) +ℤ pos k) ≤ℤ (s +ℤ pos j)) (sym m) (up (1024 * i))
  where
    up : (j : ℕ) → (s +ℤ pos j +ℤ pos k) ≤ℤ (s +ℤ pos (1024 + j))
    up j = omega (arith, ints, le)

ends_so : (a b c : ℤ) → a ≤ℤ b → b <ℤ c → a ≤ℤ c
ends_so a b c h k = omega (arith, ints, h, k)

module _ (n : ℕ) (channels : ℕ → ℕ) (tbs : ℕ → Fraction) (codecs : ℕ → Codec) (rate bits all : ℕ) (tb : Fraction) (codec : Codec) (ss : Ports)
    (valid : (p : ℕ) → p < suc n → IsValid (Frames (AudioHead (tbs p) rate bits (channels p) (codecs p))) (ss p))
    (sum : channels_to channels (suc n) ≡ all) (few : all ≤ 8) where
  abbrev lane : Lane
  lane = Frames (AudioHead tb rate bits all codec)

  abbrev come : ℕ → Stream Row
  come p = row_stream (channels p) (ss p)

  abbrev rows : List Row
  rows = rows_to n come

  abbrev make : ℕ → List Row → Item
  make = sound_frame (first_start (ss 0).items) rate bits all

  are_rows : All (IsRow bits all) rows
  are_rows = subst (λ (c : ℕ). All (IsRow bits c) rows) sum
      (rows_so bits channels n come (λ p lt. all_rows bits (tbs p) rate (channels p) (codecs p) (ss p).items (valid p lt).shape.each))

  facts : 0 < length rows → AreSome bits (tbs 0) rate (channels 0) (codecs 0) (first_start (ss 0).items)
  facts lt =
      let l = rows_few n come 0 (omega arith) in
      first_facts bits (tbs 0) rate (channels 0) (codecs 0) (ss 0).items (valid 0 (omega arith)).shape.each (omega (arith, lt, l))

  -- the rows of one frame
  abbrev part : ℕ → List Row
  part i = take 1024 (drop (1024 * i) rows)

  part_rows : (i : ℕ) → All (IsRow bits all) (part i)
  part_rows i = All-take (IsRow bits all) 1024 (drop (1024 * i) rows) (All-drop (IsRow bits all) (1024 * i) rows are_rows)

  part_some : (i : ℕ) → 1024 * i < length rows → 1 ≤ length (part i)
  part_some i lt = let a = length-take 1024 (drop (1024 * i) rows) in let b = length-drop (1024 * i) rows in omega (arith, a, b, lt)

  part_few : (i : ℕ) → length (part i) ≤ 1024
  part_few i = let a = length-take 1024 (drop (1024 * i) rows) in omega (arith, a)

  all_some : 0 < length rows → 0 < all
  all_some lt = let f = (facts lt).some_channels in let g = channels_first channels n in omega (arith, f, g, sum)

  long : (i : ℕ) → length (flattened (part i)) ≡ length (part i) * all
  long i = flat_long bits all (part i) (part_rows i)

  count : (i : ℕ) → 0 < length rows → length (flattened (part i)) / all ≡ length (part i)
  count i lt = let e : length (part i) * all ≡ length (part i) * all + 0 = omega arith in
      ap (λ (k : ℕ). k / all) (long i ∙ e) ∙ div-mul-add (length (part i)) all 0 (all_some lt)

  stop_is : (i : ℕ) → 0 < length rows → end_of (frame_at make rows i) ≡ first_start (ss 0).items +ℤ pos (1024 * i) +ℤ pos (length (part i))
  stop_is i lt = ap (λ (k : ℕ). first_start (ss 0).items +ℤ pos (1024 * i) +ℤ pos k) (count i lt)

  frame_item : (i : ℕ) → 1024 * i < length rows → IsItemFor lane (frame_at make rows i)
  frame_item i lt =
      let some : 0 < length rows = omega (arith, lt) in
      let f = facts some in
      let a = all_some some in
      let l = part_few i in
      record {
        fits = record {
          rate_is = refl;
          bits_are = refl;
          channels_are = refl;
          audio = record {
            some_bits = f.some_bits;
            few_bits = f.few_bits;
            some_channels = omega (arith, a);
            few_channels = few;
            sample_frames = length (part i);
            interleaved = long i;
            some_sample_frames = part_some i lt;
            few_sample_frames = omega (arith, l);
            within_bits = flat_fits bits all (part i) (part_rows i);
          };
        };
        not_negative = start_zero (first_start (ss 0).items) (1024 * i) f.from;
        lasts = λ t. subst (λ (z : ℤ). (first_start (ss 0).items +ℤ pos (1024 * i)) <ℤ z) (sym (stop_is i some))
            (lasts_so (first_start (ss 0).items +ℤ pos (1024 * i)) (length (part i)) (part_some i lt));
      }

  frame_follows : (i : ℕ) → 1024 * suc i < length rows → Follows lane (frame_at make rows i) (frame_at make rows (suc i))
  frame_follows i lt =
      let s = first_start (ss 0).items in
      let some : 0 < length rows = omega (arith, lt) in
      let next = frame_item (suc i) lt in
      let apart : end_of (frame_at make rows i) ≤ℤ start_of (frame_at make rows (suc i)) =
      subst (λ (z : ℤ). z ≤ℤ (s +ℤ pos (1024 * suc i))) (sym (stop_is i some)) (apart_so s i (length (part i)) (part_few i)) in
      record {
        timed = tt;
        starts = λ t. starts_so s i;
        ends = λ t. ends_so (end_of (frame_at make rows i)) (start_of (frame_at make rows (suc i))) (end_of (frame_at make rows (suc i))) apart (next.lasts t);
        apart = λ t. apart;
      }

  pub sound_shape : AreInShape lane (side_to_side n channels rate bits all ss).items
  sound_shape =
      let m = join_mark n come in
      record {
        each = frames_each lane make rows (frames_in m (length rows)) (λ i lt. frame_item i (rows_left m (length rows) i lt));
        in_order = frames_order lane make rows (frames_in m (length rows)) (λ i lt. frame_follows i (rows_left m (length rows) (suc i) lt));
      }
