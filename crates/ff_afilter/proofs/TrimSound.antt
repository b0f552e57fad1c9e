-- A trim of sound gives valid streams.
use Rattle.std.proofs.Common.{◌≡◌, ◌≢◌, ℕ, zero, suc, ◌+◌, ◌-◌, ◌*◌, ◌/◌, ◌<◌, ◌≤◌, ◌⊎◌, inl, inr, ℤ, pos, negsuc, ◌+ℤ◌, ◌<ℤ◌, ◌≤ℤ◌, min, Bool, true, false, cond, Option, Some, None, List, [], ◌∷◌, ◌++◌, drop, length, All, refl, ap, sym, ◌∙◌, subst, arith}
use Rattle.std.specs.Prelude.{nat_lt}
use Rattle.std.proofs.lemmas.Bool.Decides.{nat_tests}
use Rattle.std.proofs.lemmas.List.{length-take-le, length-drop}
use Rattle.std.proofs.lemmas.List.Elements.{All-take, All-drop}
use Rattle.std.proofs.lemmas.Nat.{div-mul-add}
use Rattle.std.proofs.Math.Nat.{add-mul, mul-le-mul_right, div-mul-le_self}
use Rattle.ff_time.specs.Fraction.{Fraction}
use Rattle.ff_frame.specs.declared.audio.AFrame.{AFrame}
use Rattle.ff_frame.specs.declared.head.Codec.{Codec}
use Rattle.ff_frame.specs.declared.head.StreamHead.TheVariants.{Audio as AudioHead}
use Rattle.ff_frame.specs.Audio.{IsAudio, FitsBits, kept_samples}
use Rattle.ff_stream.specs.declared.item.Item.{Item}
use Rattle.ff_stream.specs.declared.item.Item.TheVariants.{Audio, Video, Packet, Trailer, End, Broken}
use Rattle.ff_stream.specs.declared.item.Lane.{Lane}
use Rattle.ff_stream.specs.declared.item.Lane.TheVariants.{Frames}
use Rattle.ff_stream.specs.Stream.{Mark, whole, broken}
use Rattle.ff_stream.specs.Times.{HasTime, start_of, end_of, ticks}
use Rattle.ff_stream.specs.Lanes.{InOrder, IsItemFor, AreInShape}
use Rattle.ff_filter.specs.declared.range.Range.{Range}
use Rattle.ff_filter.specs.lasting.Lastings.{lasting}
use Rattle.ff_filter.specs.laws.Sound.{IsSound}
use Rattle.ff_afilter.specs.Trims.{count_of, before_stop, kept, kept_all, ends_past, reaches, sound_trimmed, first_kept, sound_lasting}

least_so : (a b : ℕ) → min a b ≤ a
least_so a b = omega arith

stop_below : (stop : Option ℕ) (start count : ℕ) → before_stop stop start count ≤ count
stop_below None start count = omega arith
stop_below (Some s) start count = least_so count (s - start)

size_of : (bits channels skip count : ℕ) (xs : List ℤ) → IsAudio bits channels xs → skip + count ≤ length xs / channels → length (kept_samples channels skip count xs) ≡ count * channels
size_of bits channels skip count xs h few =
    let both : (skip + count) * channels ≡ skip * channels + count * channels = add-mul skip count channels in
    let less : (skip + count) * channels ≤ length xs / channels * channels = mul-le-mul_right channels few in
    let there : length xs / channels * channels ≤ length xs = div-mul-le_self (length xs) channels in
    let rest : length (drop (skip * channels) xs) ≡ length xs - skip * channels = length-drop (skip * channels) xs in
    length-take-le (count * channels) (drop (skip * channels) xs) (omega (arith, both, less, there, rest))

-- so many of the sample frames agree where all do
kept_audio : (bits channels skip count : ℕ) (xs : List ℤ) → IsAudio bits channels xs → 1 ≤ count → skip + count ≤ length xs / channels → IsAudio bits channels (kept_samples channels skip count xs)
kept_audio bits channels skip count xs h some few =
    let sized = size_of bits channels skip count xs h few in
    record {
      some_bits = h.some_bits;
      few_bits = h.few_bits;
      some_channels = h.some_channels;
      few_channels = h.few_channels;
      sample_frames = count;
      interleaved = sized;
      some_sample_frames = some;
      few_sample_frames = fewer;
      within_bits = All-take (FitsBits bits) (count * channels) (drop (skip * channels) xs) (All-drop (FitsBits bits) (skip * channels) xs h.within_bits);
    }
  where
    all_of : length xs / channels ≡ h.sample_frames
    all_of = ap (λ (n : ℕ). n / channels) (h.interleaved ∙ plus_none (h.sample_frames * channels)) ∙ div-mul-add h.sample_frames channels 0 (let s = h.some_channels in omega (arith, s))
      where
        plus_none : (n : ℕ) → n ≡ n + 0
        plus_none n = omega arith

    fewer : count ≤ 65535
    fewer = let a = all_of in let f = h.few_sample_frames in omega (arith, a, f, few)

count_kept : (bits channels skip count : ℕ) (xs : List ℤ) → IsAudio bits channels xs → skip + count ≤ length xs / channels → length (kept_samples channels skip count xs) / channels ≡ count
count_kept bits channels skip count xs h few =
    ap (λ (n : ℕ). n / channels) (size_of bits channels skip count xs h few ∙ plus_none (count * channels)) ∙ div-mul-add count channels 0 (let s = h.some_channels in omega (arith, s))
  where
    plus_none : (n : ℕ) → n ≡ n + 0
    plus_none n = omega arith

not_below : (n : ℕ) → pos 0 ≤ℤ pos n
not_below n = grind (arith)

ticks_is : (z : ℤ) → pos 0 ≤ℤ z → pos (ticks z) ≡ z
ticks_is (pos p) n = refl
ticks_is (negsuc p) n = grind (arith)

le_trans : (a b c : ℤ) → a ≤ℤ b → b ≤ℤ c → a ≤ℤ c
le_trans a b c h k = grind (arith)

lt_le : (a b c : ℤ) → a <ℤ b → b ≤ℤ c → a <ℤ c
lt_le a b c h k = grind (arith)

le_lt : (a b c : ℤ) → a ≤ℤ b → b <ℤ c → a ≤ℤ c
le_lt a b c h k = grind (arith)

lasts_by : (n c : ℕ) → 0 < c → pos n <ℤ (pos n +ℤ pos c)
lasts_by n c h = grind (arith)

starts_by : (t skip : ℕ) → pos t ≤ℤ pos (t + skip)
starts_by t skip = grind (arith)

ends_by : (t skip c count : ℕ) → skip + c ≤ count → (pos (t + skip) +ℤ pos c) ≤ℤ (pos t +ℤ pos count)
ends_by t skip c count h = grind (arith)

module _ (tb : Fraction) (rate bits channels : ℕ) (codec : Codec) where
  abbrev lane : Lane
  lane = Frames (AudioHead tb rate bits channels codec)

  -- an item that lies within another
  record IsWithin (x y : Item) : Type 0 where
    item : IsItemFor (Frames (AudioHead tb rate bits channels codec)) y
    timed : HasTime y
    starts : start_of x ≤ℤ start_of y
    ends : end_of y ≤ℤ end_of x

  part_within : (f : AFrame) (skip until : ℕ) → IsItemFor (Frames (AudioHead tb rate bits channels codec)) (Audio f) → skip < until → until ≤ count_of f
      → IsWithin (Audio f) (Audio (record f { pts = pos (ticks f.pts + skip); samples = kept_samples f.channels skip (until - skip) f.samples }))
  part_within f skip until i some few =
      let c : ℕ = until - skip in
      let sum : skip + c ≤ count_of f = omega (arith, some, few) in
      let one : 1 ≤ c = omega (arith, some) in
      let audio : IsAudio f.bits f.channels (kept_samples f.channels skip c f.samples) = kept_audio f.bits f.channels skip c f.samples i.fits.audio one sum in
      let size : length (kept_samples f.channels skip c f.samples) / f.channels ≡ c = count_kept f.bits f.channels skip c f.samples i.fits.audio sum in
      let at : pos (ticks f.pts) ≡ f.pts = ticks_is f.pts i.not_negative in
      record {
        item = record {
          fits = record { rate_is = i.fits.rate_is; bits_are = i.fits.bits_are; channels_are = i.fits.channels_are; audio = audio };
          not_negative = not_below (ticks f.pts + skip);
          lasts = λ h. subst (λ (n : ℕ). pos (ticks f.pts + skip) <ℤ (pos (ticks f.pts + skip) +ℤ pos n)) (sym size) (lasts_by (ticks f.pts + skip) c (omega (arith, one)));
        };
        timed = tt;
        starts = subst (λ (z : ℤ). z ≤ℤ pos (ticks f.pts + skip)) at (starts_by (ticks f.pts) skip);
        ends = subst (λ (z : ℤ). (pos (ticks f.pts + skip) +ℤ pos (length (kept_samples f.channels skip c f.samples) / f.channels)) ≤ℤ (z +ℤ pos (count_of f))) at
            (subst (λ (n : ℕ). (pos (ticks f.pts + skip) +ℤ pos n) ≤ℤ (pos (ticks f.pts) +ℤ pos (count_of f))) (sym size) (ends_by (ticks f.pts) skip c (count_of f) sum));
      }

  below_by : (a b : ℕ) → nat_lt a b ≡ true → a < b
  below_by a b e = grind (arith, nat_tests)

  -- what is kept of an item: nothing, or an item within it
  kept_within : (range : Range) (x : Item) → IsItemFor (Frames (AudioHead tb rate bits channels codec)) x → (kept range x ≡ []) ⊎ ((y : Item) × (kept range x ≡ y ∷ []) × IsWithin x y)
  kept_within range (Audio f) i = at (nat_lt (range.start - ticks f.pts) (before_stop range.stop (ticks f.pts) (count_of f))) refl
    where
      skip : ℕ
      skip = range.start - ticks f.pts

      at : (b : Bool) → nat_lt (range.start - ticks f.pts) (before_stop range.stop (ticks f.pts) (count_of f)) ≡ b → (kept range (Audio f) ≡ []) ⊎ ((y : Item) × (kept range (Audio f) ≡ y ∷ []) × IsWithin (Audio f) y)
      at true e = inr (
        Audio (record f { pts = pos (ticks f.pts + (range.start - ticks f.pts)); samples = kept_samples f.channels (range.start - ticks f.pts) (before_stop range.stop (ticks f.pts) (count_of f) - (range.start - ticks f.pts)) f.samples }),
        ap (λ (b : Bool). cond b (Audio (record f { pts = pos (ticks f.pts + (range.start - ticks f.pts)); samples = kept_samples f.channels (range.start - ticks f.pts) (before_stop range.stop (ticks f.pts) (count_of f) - (range.start - ticks f.pts)) f.samples }) ∷ []) []) e,
        part_within f (range.start - ticks f.pts) (before_stop range.stop (ticks f.pts) (count_of f)) i (below_by (range.start - ticks f.pts) (before_stop range.stop (ticks f.pts) (count_of f)) e) (stop_below range.stop (ticks f.pts) (count_of f)),
      )
      at false e = inl (ap (λ (b : Bool). cond b (Audio (record f { pts = pos (ticks f.pts + (range.start - ticks f.pts)); samples = kept_samples f.channels (range.start - ticks f.pts) (before_stop range.stop (ticks f.pts) (count_of f) - (range.start - ticks f.pts)) f.samples }) ∷ []) []) e)
  kept_within range (Video f) i = absurd i.fits
  kept_within range (Packet p) i = absurd i.fits
  kept_within range (Trailer t) i = absurd i.fits
  kept_within range End i = absurd i.fits
  kept_within range Broken i = absurd i.fits

  abbrev StartsFrom : ℤ → List Item → Type 0
  StartsFrom e [] = Unit {0}
  StartsFrom e (y ∷ ys) = e ≤ℤ start_of y

  -- items in shape, the first of which starts at this time or later
  record IsFine (e : ℤ) (ys : List Item) : Type 0 where
    each : All (IsItemFor (Frames (AudioHead tb rate bits channels codec))) ys
    order : InOrder (Frames (AudioHead tb rate bits channels codec)) ys
    from : StartsFrom e ys

  nothing_fine : (e : ℤ) → IsFine e []
  nothing_fine e = record { each = λ k d lt. absurd (omega arith); order = tt; from = tt }

  earlier_fine : (e e' : ℤ) (ys : List Item) → e ≤ℤ e' → IsFine e' ys → IsFine e ys
  earlier_fine e e' [] le f = nothing_fine e
  earlier_fine e e' (y ∷ ys) le f = record { each = f.each; order = f.order; from = le_trans e e' (start_of y) le f.from }

  cons_each : (y : Item) (ys : List Item) → IsItemFor (Frames (AudioHead tb rate bits channels codec)) y → All (IsItemFor (Frames (AudioHead tb rate bits channels codec))) ys → All (IsItemFor (Frames (AudioHead tb rate bits channels codec))) (y ∷ ys)
  cons_each y ys i a zero d lt = i
  cons_each y ys i a (suc k) d lt = a k d (omega arith)

  ends_after : (x y : Item) → HasTime y → IsItemFor (Frames (AudioHead tb rate bits channels codec)) y → start_of y ≤ℤ end_of y
  ends_after x y h i = at (start_of y) (end_of y) (i.lasts h)
    where
      at : (a b : ℤ) → a <ℤ b → a ≤ℤ b
      at a b l = grind (arith)

  -- an item within x stands before items that start at the end of x or later
  cons_fine : (e : ℤ) (x y : Item) (ys : List Item) → e ≤ℤ start_of x → IsWithin x y → IsFine (end_of x) ys → IsFine e (y ∷ ys)
  cons_fine e x y [] le w f = record { each = cons_each y [] w.item f.each; order = tt; from = le_trans e (start_of x) (start_of y) le w.starts }
  cons_fine e x y (z ∷ zs) le w f =
      let behind : end_of y ≤ℤ start_of z = le_trans (end_of y) (end_of x) (start_of z) w.ends f.from in
      record {
        each = cons_each y (z ∷ zs) w.item f.each;
        order = (
          record {
            timed = w.timed;
            starts = λ h. lt_le (start_of y) (end_of y) (start_of z) (w.item.lasts w.timed) behind;
            ends = λ h. le_trans (end_of y) (start_of z) (end_of z) behind (ends_after x z h (f.each zero z (omega arith)));
            apart = λ h. behind;
          },
          f.order,
        );
        from = le_trans e (start_of x) (start_of y) le w.starts;
      }

  timed_so : (x : Item) → IsItemFor (Frames (AudioHead tb rate bits channels codec)) x → HasTime x
  timed_so (Audio f) i = tt
  timed_so (Video f) i = absurd i.fits
  timed_so (Packet p) i = absurd i.fits
  timed_so (Trailer t) i = absurd i.fits
  timed_so End i = absurd i.fits
  timed_so Broken i = absurd i.fits

  if_fine : (b : Bool) (e : ℤ) (ys : List Item) → IsFine e ys → IsFine e (cond b [] ys)
  if_fine true e ys f = nothing_fine e
  if_fine false e ys f = f

  one_fine : (range : Range) (x : Item) (xs : List Item) (e : ℤ) → e ≤ℤ start_of x → IsItemFor (Frames (AudioHead tb rate bits channels codec)) x → IsFine (end_of x) (kept_all range xs) → IsFine e (kept_all range (x ∷ xs))
  one_fine range x xs e le here rest = at (kept_within range x here) (if_fine (ends_past range x) (end_of x) (kept_all range xs) rest)
    where
      at : (kept range x ≡ []) ⊎ ((y : Item) × (kept range x ≡ y ∷ []) × IsWithin x y) → IsFine (end_of x) (cond (ends_past range x) [] (kept_all range xs)) → IsFine e (kept_all range (x ∷ xs))
      at (inl none) f = subst (λ (ys : List Item). IsFine e (ys ++ cond (ends_past range x) [] (kept_all range xs))) (sym none)
          (earlier_fine e (end_of x) (cond (ends_past range x) [] (kept_all range xs)) (le_lt e (start_of x) (end_of x) le (here.lasts (timed_so x here))) f)
      at (inr h) f = subst (λ (ys : List Item). IsFine e (ys ++ cond (ends_past range x) [] (kept_all range xs))) (sym h.1) (cons_fine e x h.0 (cond (ends_past range x) [] (kept_all range xs)) le h.2 f)

  all_fine : (range : Range) (x : Item) (xs : List Item) (e : ℤ) → e ≤ℤ start_of x → All (IsItemFor (Frames (AudioHead tb rate bits channels codec))) (x ∷ xs) → InOrder (Frames (AudioHead tb rate bits channels codec)) (x ∷ xs) → IsFine e (kept_all range (x ∷ xs))
  all_fine range x [] e le a o = one_fine range x [] e le (a zero x (omega arith)) (nothing_fine (end_of x))
  all_fine range x (y ∷ ys) e le a o = one_fine range x (y ∷ ys) e le (a zero x (omega arith))
      (all_fine range y ys (end_of x) (o.0.apart (timed_so y (a (suc zero) x (omega arith)))) (λ k d lt. a (suc k) d (omega arith)) o.1)

  shape_so : (range : Range) (xs : List Item) → AreInShape (Frames (AudioHead tb rate bits channels codec)) xs → AreInShape (Frames (AudioHead tb rate bits channels codec)) (kept_all range xs)
  shape_so range [] s = s
  shape_so range (x ∷ xs) s =
      let f = all_fine range x xs (start_of x) (self (start_of x)) s.each s.in_order in
      record { each = f.each; in_order = f.order }
    where
      self : (z : ℤ) → z ≤ℤ z
      self z = grind (arith)

  unbroken_mark : (b : Bool) (m : Mark) → m ≢ broken → cond b whole m ≢ broken
  unbroken_mark true m n = λ e. cc
  unbroken_mark false m n = n

  pub sound_trim_sound : (range : Range) → IsSound (Frames (AudioHead tb rate bits channels codec)) (Frames (AudioHead tb rate bits channels codec)) (λ s. sound_trimmed range s)
  sound_trim_sound range = record {
    shape = λ s v. shape_so range s.items v.shape;
    unbroken = λ s v u. unbroken_mark (reaches range s.items) s.mark u;
  }

  pub sound_lasting_sound : (range : Range) (ticks : ℕ) → IsSound (Frames (AudioHead tb rate bits channels codec)) (Frames (AudioHead tb rate bits channels codec)) (λ s. sound_lasting range ticks s)
  sound_lasting_sound range ticks = record {
    shape = λ s v. (sound_trim_sound (lasting range ticks (first_kept range.start s.items))).shape s v;
    unbroken = λ s v u. (sound_trim_sound (lasting range ticks (first_kept range.start s.items))).unbroken s v u;
  }
