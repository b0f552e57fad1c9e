-- One channel of a valid stream of sound is a valid stream.
use Rattle.std.proofs.Common.{◌≡◌, ℕ, zero, suc, ◌+◌, ◌*◌, ◌/◌, ◌<◌, ℤ, pos, ◌+ℤ◌, ◌<ℤ◌, ◌≤ℤ◌, Bool, true, cond, List, [], ◌∷◌, map, length, slice_index_or, All, refl, ap, sym, ◌∙◌, subst, arith}
use Rattle.std.specs.Prelude.{nat_lt}
use Rattle.std.proofs.lemmas.Bool.Decides.{nat_tests}
use Rattle.std.proofs.lemmas.List.{length-map}
use Rattle.std.proofs.lemmas.List.FromFn.{length-map-range_with_len, get_or-map-range_with_len}
use Rattle.std.proofs.lemmas.Nat.{div-mul-add}
use Rattle.ff_time.specs.Fraction.{Fraction}
use Rattle.ff_frame.specs.declared.audio.AFrame.{AFrame}
use Rattle.ff_frame.specs.declared.head.Codec.{Codec}
use Rattle.ff_frame.specs.declared.head.StreamHead.TheVariants.{Audio as AudioHead}
use Rattle.ff_frame.specs.Audio.{IsAudio, FitsBits}
use Rattle.ff_stream.specs.declared.item.Item.{Item}
use Rattle.ff_stream.specs.declared.item.Item.TheVariants.{Audio, Video, Packet, Trailer, End, Broken}
use Rattle.ff_stream.specs.declared.item.Lane.TheVariants.{Frames}
use Rattle.ff_stream.specs.Stream.{map_stream}
use Rattle.ff_stream.specs.Times.{HasTime, start_of, end_of, ticks, IsInTime}
use Rattle.ff_stream.specs.Lanes.{Follows, InOrder, IsItemFor, EndsInTime}
use Rattle.ff_filter.specs.laws.spread.Valid.{GivesValid}
use Rattle.ff_afilter.specs.Channels.{channel_of, channel_frame, channel_item}
use Rattle.ff_afilter.proofs.Picking.{sample_there}

by_one : (n : ℕ) → n / 1 ≡ n
by_one n = ap (λ (k : ℕ). k / 1) (times n) ∙ div-mul-add n 1 0 (omega arith)
  where
    times : (n : ℕ) → n ≡ n * 1 + 0
    times n = omega arith

channel_fits : (bits channels q : ℕ) (xs : List ℤ) → q < channels → All (FitsBits bits) xs → All (FitsBits bits) (channel_of q channels (length xs / channels) xs)
channel_fits bits channels q xs lt a k d less =
    let there : k < length xs / channels = let n = length-map-range_with_len (λ j. slice_index_or xs (j * channels + q) (pos 0)) 0 (length xs / channels) in omega (arith, less, n) in
    subst (λ (z : ℤ). FitsBits bits z) (sym (get_or-map-range_with_len (λ j. slice_index_or xs (j * channels + q) (pos 0)) 0 (length xs / channels) k k d there (omega arith)))
    (a (k * channels + q) (pos 0) (sample_there k (length xs) channels q lt there))

channel_audio : (bits channels q : ℕ) (xs : List ℤ) → q < channels → IsAudio bits channels xs → IsAudio bits 1 (channel_of q channels (length xs / channels) xs)
channel_audio bits channels q xs lt h =
    let count : length xs / channels ≡ h.sample_frames = ap (λ (n : ℕ). n / channels) (h.interleaved ∙ plus_none (h.sample_frames * channels)) ∙ div-mul-add h.sample_frames channels 0 (omega (arith, lt)) in
    let size : length (channel_of q channels (length xs / channels) xs) ≡ length xs / channels = length-map-range_with_len (λ j. slice_index_or xs (j * channels + q) (pos 0)) 0 (length xs / channels) in
    record {
      some_bits = h.some_bits;
      few_bits = h.few_bits;
      some_channels = omega arith;
      few_channels = omega arith;
      sample_frames = length xs / channels;
      interleaved = size ∙ once (length xs / channels);
      some_sample_frames = let s = h.some_sample_frames in omega (arith, s, count);
      few_sample_frames = let f = h.few_sample_frames in omega (arith, f, count);
      within_bits = channel_fits bits channels q xs lt h.within_bits;
    }
  where
    plus_none : (n : ℕ) → n ≡ n + 0
    plus_none n = omega arith

    once : (n : ℕ) → n ≡ n * 1
    once n = omega arith

yes : (q c : ℕ) → q < c → nat_lt q c ≡ true
yes q c lt = grind (arith, nat_tests)

module _ (tb : Fraction) (rate bits channels : ℕ) (codec : Codec) (q : ℕ) (lt : q < channels) where
  -- an item of one channel: of the same time
  record IsSo (x : Item) : Type 0 where
    item : IsItemFor (Frames (AudioHead tb rate bits 1 codec)) (channel_item q x)
    timed : HasTime (channel_item q x)
    back : HasTime x
    start : start_of (channel_item q x) ≡ start_of x
    end : end_of (channel_item q x) ≡ end_of x

  frame_so : (f : AFrame) → IsItemFor (Frames (AudioHead tb rate bits channels codec)) (Audio f) → (g : AFrame) → g ≡ channel_frame q f → cond (nat_lt q f.channels) (channel_frame q f) f ≡ g
  frame_so f i g e = ap (λ (b : Bool). cond b (channel_frame q f) f) (yes q f.channels (let c = i.fits.channels_are in omega (arith, lt, c))) ∙ sym e

  end_so : (f : AFrame) → end_of (Audio (channel_frame q f)) ≡ end_of (Audio f)
  end_so f = ap (λ (n : ℕ). f.pts +ℤ pos n) (by_one (length (channel_of q f.channels (length f.samples / f.channels) f.samples)) ∙ length-map-range_with_len (λ j. slice_index_or f.samples (j * f.channels + q) (pos 0)) 0 (length f.samples / f.channels))

  item_so : (x : Item) → IsItemFor (Frames (AudioHead tb rate bits channels codec)) x → IsSo x
  item_so (Audio f) i =
      let is : cond (nat_lt q f.channels) (channel_frame q f) f ≡ channel_frame q f = frame_so f i (channel_frame q f) refl in
      let less : q < f.channels = (let c = i.fits.channels_are in omega (arith, lt, c)) in
      let one : IsItemFor (Frames (AudioHead tb rate bits 1 codec)) (Audio (channel_frame q f)) = record {
        fits = record { rate_is = i.fits.rate_is; bits_are = i.fits.bits_are; channels_are = refl; audio = channel_audio f.bits f.channels q f.samples less i.fits.audio };
        not_negative = i.not_negative;
        lasts = λ h. subst (λ (z : ℤ). f.pts <ℤ z) (sym (end_so f)) (i.lasts tt);
      } in
      record {
        item = subst (λ (g : AFrame). IsItemFor (Frames (AudioHead tb rate bits 1 codec)) (Audio g)) (sym is) one;
        timed = tt;
        back = tt;
        start = ap (λ (g : AFrame). g.pts) is;
        end = ap (λ (g : AFrame). end_of (Audio g)) is ∙ end_so f;
      }
  item_so (Video f) i = absurd i.fits
  item_so (Packet p) i = absurd i.fits
  item_so (Trailer t) i = absurd i.fits
  item_so End i = absurd i.fits
  item_so Broken i = absurd i.fits

  each_so : (xs : List Item) → All (IsItemFor (Frames (AudioHead tb rate bits channels codec))) xs → All (IsItemFor (Frames (AudioHead tb rate bits 1 codec))) (map (channel_item q) xs)
  each_so [] a k d less = absurd (omega arith)
  each_so (x ∷ xs) a zero d less = (item_so x (a zero x (omega arith))).item
  each_so (x ∷ xs) a (suc k) d less = each_so xs (λ j e l. a (suc j) e (omega arith)) k d (omega arith)

  follows_so : (x y : Item) → IsSo x → IsSo y → Follows (Frames (AudioHead tb rate bits channels codec)) x y → Follows (Frames (AudioHead tb rate bits 1 codec)) (channel_item q x) (channel_item q y)
  follows_so x y a b f = record {
    timed = a.timed;
    starts = λ h. subst (λ (z : ℤ). z <ℤ start_of (channel_item q y)) (sym a.start) (subst (λ (z : ℤ). start_of x <ℤ z) (sym b.start) (f.starts b.back));
    ends = λ h. subst (λ (z : ℤ). z ≤ℤ end_of (channel_item q y)) (sym a.end) (subst (λ (z : ℤ). end_of x ≤ℤ z) (sym b.end) (f.ends b.back));
    apart = λ h. subst (λ (z : ℤ). z ≤ℤ start_of (channel_item q y)) (sym a.end) (subst (λ (z : ℤ). end_of x ≤ℤ z) (sym b.start) (f.apart b.back));
  }

  order_so : (xs : List Item) → All (IsItemFor (Frames (AudioHead tb rate bits channels codec))) xs → InOrder (Frames (AudioHead tb rate bits channels codec)) xs → InOrder (Frames (AudioHead tb rate bits 1 codec)) (map (channel_item q) xs)
  order_so [] a o = tt
  order_so (x ∷ []) a o = tt
  order_so (x ∷ y ∷ xs) a o = (
    follows_so x y (item_so x (a zero x (omega arith))) (item_so y (a (suc zero) x (omega arith))) o.0,
    order_so (y ∷ xs) (λ k d less. a (suc k) d (omega arith)) o.1,
  )

  time_so : (xs : List Item) → All (IsItemFor (Frames (AudioHead tb rate bits channels codec))) xs → All (EndsInTime (Frames (AudioHead tb rate bits channels codec))) xs → All (EndsInTime (Frames (AudioHead tb rate bits 1 codec))) (map (channel_item q) xs)
  time_so [] a t k d less = absurd (omega arith)
  time_so (x ∷ xs) a t zero d less = subst (λ (z : ℤ). IsInTime tb (ticks z)) (sym (item_so x (a zero x (omega arith))).end) (t zero x (omega arith))
  time_so (x ∷ xs) a t (suc k) d less = time_so xs (λ j e l. a (suc j) e (omega arith)) (λ j e l. t (suc j) e (omega arith)) k d (omega arith)

  pub channel_valid : GivesValid (Frames (AudioHead tb rate bits channels codec)) (Frames (AudioHead tb rate bits 1 codec)) (λ s. map_stream (channel_item q) s)
  channel_valid = record {
    valid = λ s v. record {
      shape = record { each = each_so s.items v.shape.each; in_order = order_so s.items v.shape.each v.shape.in_order };
      few = let n : length (map (channel_item q) s.items) ≡ length s.items = simp length-map in let f = v.few in omega (arith, n, f);
      in_time = time_so s.items v.shape.each v.in_time;
    };
    unbroken = λ s v u. u;
  }
