-- Each candidate spells the sound.
use Rattle.std.proofs.Common.{◌≡◌, ℕ, zero, suc, ◌+◌, ◌-◌, ◌*◌, ◌/◌, ◌^◌, ◌<◌, ◌≤◌, Bool, true, false, cond, eqb, ltb, ◌&&◌, ℤ, pos, List, [], ◌∷◌, ◌++◌, length, map, take, drop, get_or, replicate, Some, refl, sym, ap, subst, ◌∙◌, arith, length-append}
use Rattle.std.specs.Option.{IfSome}
use Rattle.std.specs.List.{range_with_len, All, AllByRecursion}
use Rattle.std.proofs.Math.Nat.{mul-div_cancel, mul-le-mul_right, div-le_of_le-mul}
use Rattle.std.proofs.lemmas.Bool.{lt-ltb, eq-eqb, eqb-true, or_left, and_from}
use Rattle.std.proofs.lemmas.List.{length-take, length-drop, get_or-take, get_or-drop, drop-drop, drop_at, take_all}
use Rattle.std.proofs.lemmas.List.FromFn.{fill_by_all, get_or-map-range_with_len}
use Rattle.std.proofs.lemmas.List.Elements.{recursion_from_All}
use Rattle.std.proofs.lemmas.Simd.{map-map}
use Rattle.std.proofs.Math.Seq.{take-add}
use Rattle.ff_bits.specs.Bits.{bits as bits_in}
use Rattle.ff_bits.specs.Reading.{Done}
use Rattle.ff_bits.proofs.BitsLemmas.{bits-append}
use Rattle.ff_frame.specs.declared.audio.AFrame.{AFrame}
use Rattle.ff_frame.specs.Frame.{audio_frame}
use Rattle.ff_frame.specs.Audio.{FitsBits}
use Rattle.ff_flac_frame.specs.Codes.{form_fits, depths}
use Rattle.ff_flac_frame.specs.Frame.{Frame, Begins, frame}
use Rattle.ff_flac_dec.specs.Channels.{AllChannels, AllCoded, IsWithinDepths, both, mid_right, separated, pair, channels_of, sample_frame, interleaved, interleaved_from, decoded}
use Rattle.ff_flac_subframe.specs.rice.Least.{least}
use Rattle.ff_flac_subframe.specs.laws.rice.Spells.{Reads}
use Rattle.ff_flac_subframe.proofs.RiceLemmas.LeastLemmas.{least_holds}
use Rattle.ff_flac_subframe.proofs.RiceLemmas.ReadsRice.{all-map, all-flat_map, all-weaker}
use Rattle.ff_flac_enc.specs.declared.head.Head.{Head}
use Rattle.ff_flac_enc.specs.Head.{IsHead, opened, closed}
use Rattle.ff_flac_enc.specs.Layout.{Signal, signal, signals, mid_of, side_of, products, bodies, Layout, layouts, layouts_with, layout_size, forms, body}
use Rattle.ff_flac_enc.specs.Channels.{channel_of, channels_in}
use Rattle.ff_flac_enc.specs.Frame.{IsBlock, IsLeast, stream_of, head_of, candidates, subframe_bits_of, spelled, Spells}
use Rattle.ff_flac_enc.proofs.Choice.{signals_1, signals_2, signals_3, signals_4, mid_small, side_small, length_mid, length_side}
use Rattle.ff_flac_enc.proofs.Apart.{sample_at, length-channel_of, length-channels_in, channel_all, all_range, signals_apart}
use Rattle.ff_flac_enc.proofs.Stereo.{left_side_back, side_right_back, mid_left_back, mid_right_back}
use Rattle.ff_flac_enc.proofs.ReadsFrame.{IsSignal, AreReadBack, parts_for, products_read, frame_for, reads-frame}

-- ---- the channels as they are interleaved

mul_div : (m n : ℕ) → 0 < n → m * n / n ≡ m
mul_div m n h = mul-div_cancel m h

joint_depths : ℕ → ℕ → List ℕ
joint_depths form bits = cond (eqb form 9) ((bits + 1) ∷ bits ∷ []) (bits ∷ (bits + 1) ∷ [])

module _ (n : ℕ) (samples : List ℤ) (block : ℕ) (whole : length samples ≡ block * n) (some_channels : 0 < n) where
  count_is : length samples / n ≡ block
  count_is = ap (λ (m : ℕ). m / n) whole ∙ mul_div block n some_channels

  one_frame : (t : ℕ) → t < block → sample_frame (channels_in n samples) t ≡ take n (drop (t * n) samples)
  unfolding channels_in channel_of
  one_frame t h =
      let here : suc t * n ≤ block * n = mul-le-mul_right n (omega arith) in
      let room : t * n + n ≤ length samples = omega (arith, whole, here) in
      let f : ℕ → ℤ = λ c. get_or (channel_of n samples c) t (pos 0) in
      let xs : List ℤ = take n (drop (t * n) samples) in
      let l : length xs ≡ n = omega (arith, length-take n (drop (t * n) samples), length-drop (t * n) samples, room) in
      let in_it : t < length samples / n = omega (arith, count_is, h) in
      let each : (k : ℕ) → k < n → get_or xs k (pos 0) ≡ f k = λ k lt.
      get_or-take n (drop (t * n) samples) k (pos 0) lt ∙ get_or-drop (t * n) samples k (pos 0)
      ∙ sym (get_or-map-range_with_len (sample_at n samples k) 0 (length samples / n) t t (pos 0) in_it (omega arith)) in
      map-map (λ (ys : List ℤ). get_or ys t (pos 0)) (channel_of n samples) (range_with_len 0 n) ∙ sym (fill_by_all f xs n (pos 0) l each)

  frames_from : (m t : ℕ) → t + m ≤ block → interleaved_from (channels_in n samples) m t ≡ take (m * n) (drop (t * n) samples)
  frames_from zero t h = let z : 0 * n ≡ 0 = omega arith in sym (ap (λ (k : ℕ). take k (drop (t * n) samples)) z)
  frames_from (suc m) t h =
      let e : n + m * n ≡ suc m * n = omega arith in
      let d : t * n + n ≡ (t + 1) * n = omega arith in
      ap (λ (l : List ℤ). l ++ interleaved_from (channels_in n samples) m (t + 1)) (one_frame t (omega arith))
      ∙ ap (λ (l : List ℤ). take n (drop (t * n) samples) ++ l) (frames_from m (t + 1) (omega arith))
      ∙ ap (λ (l : List ℤ). take n (drop (t * n) samples) ++ take (m * n) l) (sym (drop-drop n (t * n) samples ∙ ap (λ (k : ℕ). drop k samples) d))
      ∙ sym (take-add n (m * n) (drop (t * n) samples)) ∙ ap (λ (k : ℕ). take k (drop (t * n) samples)) e

  pub interleaved_is : interleaved block (channels_in n samples) ≡ samples
  unfolding interleaved
  interleaved_is =
      let z : 0 * n ≡ 0 = omega arith in
      frames_from block 0 (omega arith) ∙ ap (λ (k : ℕ). take (block * n) (drop k samples)) z ∙ take_all (block * n) samples (omega (arith, whole))

-- ---- the signals of each channel code

record IsChannel (bits block : ℕ) (xs : List ℤ) : Type 0 where
  pub count : length xs ≡ block
  pub fits : All (FitsBits bits) xs

pub record IsForm (bits block : ℕ) (channels : List (List ℤ)) (form : ℕ) : Type 0 where
  pub small : form < 16
  pub fits : form_fits (length channels) form ≡ true
  pub depths_are : map (λ (x : Signal). x.depth) (signals bits channels form) ≡ depths form (length channels) bits
  pub signals_are : AllByRecursion (IsSignal block) (signals bits channels form)
  pub back : separated form (map (λ (x : Signal). x.samples) (signals bits channels form)) ≡ channels

record IsSize (bits block : ℕ) : Type 0 where
  pub positive : 0 < bits
  pub within : bits ≤ 24
  pub some_samples : 0 < block

signal_is : (bits block depth : ℕ) (xs : List ℤ) → IsSize bits block → 0 < depth → depth ≤ 25 → length xs ≡ block → All (FitsBits depth) xs → IsSignal block (signal depth xs)
signal_is bits block depth xs s p w n f = record { positive = p; within = w; some_samples = s.some_samples; count = n; fits = recursion_from_All (FitsBits depth) xs f }

channel_signal : (bits block : ℕ) (xs : List ℤ) → IsSize bits block → IsChannel bits block xs → IsSignal block (signal bits xs)
channel_signal bits block xs s h = signal_is bits block bits xs s s.positive (omega (arith, s.within)) h.count h.fits

mid_signal : (bits block : ℕ) (l r : List ℤ) → IsSize bits block → IsChannel bits block l → IsChannel bits block r → IsSignal block (signal bits (mid_of l r))
mid_signal bits block l r s h g =
    let n : length (mid_of l r) ≡ block = length_mid l r (mid_of l r) refl (h.count ∙ sym g.count) ∙ h.count in
    signal_is bits block bits (mid_of l r) s s.positive (omega (arith, s.within)) n (mid_small bits l r (mid_of l r) refl h.fits g.fits)

side_signal : (bits block : ℕ) (l r : List ℤ) → IsSize bits block → IsChannel bits block l → IsChannel bits block r → IsSignal block (signal (bits + 1) (side_of l r))
side_signal bits block l r s h g =
    let n : length (side_of l r) ≡ block = length_side l r (side_of l r) refl (h.count ∙ sym g.count) ∙ h.count in
    signal_is bits block (bits + 1) (side_of l r) s (omega arith) (omega (arith, s.within)) n (side_small bits l r (side_of l r) s.positive refl h.fits g.fits)

-- the four codes of two channels
module _ (bits block : ℕ) (l r : List ℤ) (s : IsSize bits block) (h : IsChannel bits block l) (g : IsChannel bits block r) where
  same : length l ≡ length r
  same = h.count ∙ sym g.count

  two_of : (form : ℕ) (a b : Signal) → signals bits (l ∷ r ∷ []) form ≡ a ∷ b ∷ [] → form < 16 → form_fits 2 form ≡ true → a.depth ∷ b.depth ∷ [] ≡ depths form 2 bits
      → IsSignal block a → IsSignal block b → separated form (a.samples ∷ b.samples ∷ []) ≡ l ∷ r ∷ [] → IsForm bits block (l ∷ r ∷ []) form
  two_of form a b e f t d i j k = record {
    small = f;
    fits = t;
    depths_are = ap (map (λ (x : Signal). x.depth)) e ∙ d;
    signals_are = subst (AllByRecursion (IsSignal block)) (sym e) (i, (j, tt));
    back = ap (λ xs. separated form (map (λ (x : Signal). x.samples) xs)) e ∙ k;
  }

  form_1 : IsForm bits block (l ∷ r ∷ []) 1
  unfolding form_fits depths
  form_1 = two_of 1 (signal bits l) (signal bits r) (signals_1 bits l r) (omega arith) refl refl (channel_signal bits block l s h) (channel_signal bits block r s g) refl

  form_8 : IsForm bits block (l ∷ r ∷ []) 8
  unfolding form_fits depths
  form_8 =
      two_of 8 (signal bits l) (signal (bits + 1) (side_of l r)) (signals_2 bits l r) (omega arith) refl refl (channel_signal bits block l s h) (side_signal bits block l r s h g)
      (ap (λ (xs : List ℤ). l ∷ xs ∷ []) (left_side_back l r same))

  form_9 : IsForm bits block (l ∷ r ∷ []) 9
  unfolding form_fits depths
  form_9 =
      two_of 9 (signal (bits + 1) (side_of l r)) (signal bits r) (signals_3 bits l r) (omega arith) refl refl (side_signal bits block l r s h g) (channel_signal bits block r s g)
      (ap (λ (xs : List ℤ). xs ∷ r ∷ []) (side_right_back l r same))

  form_10 : IsForm bits block (l ∷ r ∷ []) 10
  unfolding form_fits depths
  form_10 =
      two_of 10 (signal bits (mid_of l r)) (signal (bits + 1) (side_of l r)) (signals_4 bits l r) (omega arith) refl refl (mid_signal bits block l r s h g) (side_signal bits block l r s h g)
      (ap (λ (xs : List ℤ). xs ∷ both mid_right (mid_of l r) (side_of l r) ∷ []) (mid_left_back l r same) ∙ ap (λ (xs : List ℤ). l ∷ xs ∷ []) (mid_right_back l r same))

depths_apart : (bits : ℕ) (channels : List (List ℤ)) → map (λ (x : Signal). x.depth) (map (signal bits) channels) ≡ replicate (length channels) bits
depths_apart bits [] = refl
depths_apart bits (xs ∷ channels) = ap (λ (l : List ℕ). bits ∷ l) (depths_apart bits channels)

samples_apart : (bits : ℕ) (channels : List (List ℤ)) → map (λ (x : Signal). x.samples) (map (signal bits) channels) ≡ channels
samples_apart bits [] = refl
samples_apart bits (xs ∷ channels) = ap (λ (l : List (List ℤ)). xs ∷ l) (samples_apart bits channels)

signals_all : (bits block : ℕ) (channels : List (List ℤ)) → IsSize bits block → AllByRecursion (IsChannel bits block) channels → AllByRecursion (IsSignal block) (map (signal bits) channels)
signals_all bits block [] s h = tt
signals_all bits block (xs ∷ channels) s h = (channel_signal bits block xs s h.0, signals_all bits block channels s h.1)

form_apart : (bits block : ℕ) (channels : List (List ℤ)) → IsSize bits block → 0 < length channels → length channels ≤ 8 → AllByRecursion (IsChannel bits block) channels
    → IsForm bits block channels (length channels - 1)
unfolding form_fits depths joint_depths
form_apart bits block channels s n few h =
    let form : ℕ = length channels - 1 in
    let low : ltb form 8 ≡ true = lt-ltb form 8 (omega arith) in
    let counts : eqb (form + 1) (length channels) ≡ true = eq-eqb (form + 1) (length channels) (omega arith) in
    let e : signals bits channels form ≡ map (signal bits) channels = signals_apart bits channels form (omega arith) in
    record {
      small = omega arith;
      fits = or_left (ltb form 8 && eqb (form + 1) (length channels)) _ (and_from (ltb form 8) (eqb (form + 1) (length channels)) low counts);
      depths_are = ap (map (λ (x : Signal). x.depth)) e ∙ depths_apart bits channels ∙ sym (ap (λ b. cond b (replicate (length channels) bits) (joint_depths form bits)) low);
      signals_are = subst (AllByRecursion (IsSignal block)) (sym e) (signals_all bits block channels s h);
      back = ap (λ b. cond b (map (λ (x : Signal). x.samples) (signals bits channels form)) (pair form (map (λ (x : Signal). x.samples) (signals bits channels form)))) low
          ∙ ap (map (λ (x : Signal). x.samples)) e ∙ samples_apart bits channels;
    }

forms_of_two : (bits block : ℕ) (channels : List (List ℤ)) → IsSize bits block → length channels ≡ 2 → AllByRecursion (IsChannel bits block) channels
    → AllByRecursion (IsForm bits block channels) (1 ∷ 8 ∷ 9 ∷ 10 ∷ [])
forms_of_two bits block [] s n h = absurd (omega arith)
forms_of_two bits block (l ∷ []) s n h = absurd (omega arith)
forms_of_two bits block (l ∷ r ∷ []) s n h = (form_1 bits block l r s h.0 h.1.0, (form_8 bits block l r s h.0 h.1.0, (form_9 bits block l r s h.0 h.1.0, (form_10 bits block l r s h.0 h.1.0, tt))))
forms_of_two bits block (l ∷ r ∷ x ∷ xs) s n h = absurd (omega arith)

forms_are : (bits block : ℕ) (channels : List (List ℤ)) → IsSize bits block → 0 < length channels → length channels ≤ 8 → AllByRecursion (IsChannel bits block) channels
    → AllByRecursion (IsForm bits block channels) (forms (length channels))
unfolding forms
forms_are bits block channels s n few h =
    elim (eqb (length channels) 2) as (λ b. eqb (length channels) 2 ≡ b → AllByRecursion (IsForm bits block channels) (cond b (1 ∷ 8 ∷ 9 ∷ 10 ∷ []) ((length channels - 1) ∷ []))) [
      | true ↦ λ e. forms_of_two bits block channels s (eqb-true (length channels) 2 e) h
      | false ↦ λ e. (form_apart bits block channels s n few h, tt)
    ] refl

-- ---- each candidate

pub record IsGood (bits block : ℕ) (channels : List (List ℤ)) (y : Layout) : Type 0 where
  pub form : IsForm bits block channels y.form
  pub back : AreReadBack block (signals bits channels y.form) y.spellings

good_with : (bits block : ℕ) (channels : List (List ℤ)) (form : ℕ) → IsForm bits block channels form → AllByRecursion (IsGood bits block channels) (layouts_with bits channels form)
unfolding layouts_with
good_with bits block channels form f =
    let xs : List Signal = signals bits channels form in
    all-map (IsGood bits block channels) (λ ss. record { form = form; spellings = ss }) (products xs)
    (all-weaker (AreReadBack block xs) (λ ss. IsGood bits block channels (record { form = form; spellings = ss })) (λ ss r. record { form = f; back = r }) (products xs) (products_read block xs f.signals_are))

layouts_good : (bits block : ℕ) (channels : List (List ℤ)) → IsSize bits block → 0 < length channels → length channels ≤ 8 → AllByRecursion (IsChannel bits block) channels
    → AllByRecursion (IsGood bits block channels) (layouts bits channels)
unfolding layouts
layouts_good bits block channels s n few h =
    all-flat_map (IsGood bits block channels) (layouts_with bits channels) (forms (length channels))
    (all-weaker (IsForm bits block channels) (λ form. AllByRecursion (IsGood bits block channels) (layouts_with bits channels form)) (λ form f. good_with bits block channels form f)
    (forms (length channels)) (forms_are bits block channels s n few h))

-- the bytes spell the audio by a frame of as many sample frames, with each sample within its depth
abbrev pub SpellsWithin : List ℕ → AFrame → ℕ → Type 0
SpellsWithin bytes a number =
    (f : Frame) × (f.header.number ≡ number) × ((more : List ℕ) → Begins (stream_of a) (bytes ++ more) f (length bytes)) × (decoded (stream_of a) a.pts f ≡ a)
    × (f.header.block ≡ length a.samples / a.channels) × IsWithinDepths (stream_of a) f

module _ (a : AFrame) (number : ℕ) (is : IsBlock a) where
  n : ℕ
  n = a.channels

  block : ℕ
  block = length a.samples / a.channels

  chs : List (List ℤ)
  chs = channels_in a.channels a.samples

  whole : length a.samples ≡ block * a.channels
  unfolding block
  whole =
      let k : ℕ = is.sound.sample_frames in
      let e : length a.samples ≡ k * a.channels = is.sound.interleaved in
      let q : length a.samples / a.channels ≡ k = ap (λ (m : ℕ). m / a.channels) e ∙ mul_div k a.channels is.sound.some_channels in
      e ∙ ap (λ (m : ℕ). m * a.channels) (sym q)

  frames_are : block ≡ is.sound.sample_frames
  unfolding block
  frames_are = ap (λ (m : ℕ). m / a.channels) is.sound.interleaved ∙ mul_div is.sound.sample_frames a.channels is.sound.some_channels

  size_is : IsSize a.bits block
  size_is = record { positive = omega (arith, is.sound.some_bits); within = is.few_bits; some_samples = omega (arith, frames_are, is.sound.some_sample_frames) }

  few_are : block ≤ 4096
  unfolding block
  few_are =
      let le : length a.samples ≤ a.channels * 4096 = omega (arith, is.few_samples) in
      div-le_of_le-mul a.channels le

  channels_are : AllByRecursion (IsChannel a.bits block) chs
  unfolding chs channels_in block
  channels_are =
      all-map (IsChannel a.bits (length a.samples / a.channels)) (channel_of a.channels a.samples) (range_with_len 0 a.channels)
      (all_range (λ c. IsChannel a.bits (length a.samples / a.channels) (channel_of a.channels a.samples c)) 0 a.channels (λ c g l. record {
        count = length-channel_of a.channels c a.samples;
        fits = channel_all (FitsBits a.bits) a.channels c a.samples (channel_of a.channels a.samples c) refl (omega (arith, l)) is.sound.within_bits;
      }))

  count_chs : length chs ≡ a.channels
  unfolding chs
  count_chs = length-channels_in a.channels a.samples

  candidates_good : AllByRecursion (IsGood a.bits block chs) (candidates a)
  unfolding candidates chs
  candidates_good = layouts_good a.bits block chs size_is (omega (arith, count_chs, is.sound.some_channels)) (omega (arith, count_chs, is.sound.few_channels)) channels_are

  stands_for : (y : Layout) → IsGood a.bits block chs y → interleaved block (channels_of (frame_for (head_of a number) (signals a.bits chs y.form) y)) ≡ a.samples
  unfolding channels_of block chs
  stands_for y g =
      ap (λ cs. interleaved block (separated y.form cs)) g.back.stand ∙ ap (interleaved block) g.form.back
      ∙ interleaved_is a.channels a.samples block whole (omega (arith, is.sound.some_channels))

  all_channels : (channels : List (List ℤ)) → AllByRecursion (IsChannel a.bits block) channels → AllChannels a.bits channels
  all_channels [] h = tt
  all_channels (xs ∷ channels) h = (λ k lt. h.0.fits k (pos 0) lt, all_channels channels h.1)

  within_good : (y : Layout) → IsGood a.bits block chs y → IsWithinDepths (stream_of a) (frame_for (head_of a number) (signals a.bits chs y.form) y)
  unfolding channels_of block chs
  within_good y g =
      let xs : List Signal = signals a.bits chs y.form in
      let ds : map (λ (x : Signal). x.depth) xs ≡ depths y.form a.channels a.bits = g.form.depths_are ∙ ap (λ (m : ℕ). depths y.form m a.bits) count_chs in
      record {
        coded = subst (λ (l : List ℕ). AllCoded block l (parts_for xs y.spellings)) ds g.back.coded;
        stream = subst (λ (cs : List (List ℤ)). AllChannels a.bits cs) (sym (ap (λ cs. separated y.form cs) g.back.stand ∙ g.form.back)) (all_channels chs channels_are);
      }

  within_bytes : number < 2 ^ 31 → (y : Layout) → IsGood a.bits block chs y → (bytes : List ℕ) → bits_in bytes ≡ spelled a number y → SpellsWithin bytes a number
  unfolding spelled body block chs decoded
  within_bytes small y g bytes e =
      let h : Head = head_of a number in
      let xs : List Signal = signals a.bits chs y.form in
      let f : Frame = frame_for h xs y in
      let head : IsHead h = record { some_samples = size_is.some_samples; few_samples = few_are; number = small } in
      let fits : form_fits a.channels y.form ≡ true = subst (λ (m : ℕ). form_fits m y.form ≡ true) count_chs g.form.fits in
      let ds : map (λ (x : Signal). x.depth) xs ≡ depths y.form a.channels a.bits = g.form.depths_are ∙ ap (λ (m : ℕ). depths y.form m a.bits) count_chs in
      let read : Reads (frame (stream_of a)) (closed (opened h y.form ++ bodies xs y.spellings)) f = reads-frame h xs y head g.form.small fits ds g.back in (
        f,
        refl,
        λ more. (
          let n : length bytes ≤ length (bytes ++ more) = omega (arith, length-append bytes more) in n,
          ap (frame (stream_of a)) (bits-append bytes more ∙ ap (λ l. l ++ bits_in more) e) ∙ read (bits_in more) ∙ ap (λ l. Done f (bits_in l)) (sym (drop_at bytes more (length bytes) refl)),
        ),
        ap (λ (xs : List ℤ). audio_frame a.pts a.rate a.bits a.channels xs) (stands_for y g),
        refl,
        within_good y g,
      )

  pub spells_within : number < 2 ^ 31 → (bytes : List ℕ) → IsLeast a number bytes → SpellsWithin bytes a number
  spells_within small bytes h =
      let held = least_holds (IsGood a.bits block chs) (subframe_bits_of a) (candidates a) candidates_good in
      let good : IsGood a.bits block chs h.0 = subst (λ o. IfSome o (IsGood a.bits block chs)) h.1 held in
      within_bytes small h.0 good bytes h.2

  pub spells_least : number < 2 ^ 31 → (bytes : List ℕ) → IsLeast a number bytes → Spells bytes a number
  spells_least small bytes h = let w = spells_within small bytes h in (w.0, w.1, w.2, w.3)

abbrev pub WroteLeast : AFrame → ℕ → List Bool → List ℤ → Type 0
WroteLeast a number out samples =
    (y : Layout) × (least (layout_size a.bits (channels_in a.channels samples)) (layouts a.bits (channels_in a.channels samples)) ≡ Some y)
    × (out ≡ opened (record { stream = stream_of a; number = number; block = length samples / a.channels }) y.form ++ body a.bits (channels_in a.channels samples) y)

pub least_is : (a : AFrame) (number : ℕ) (samples : List ℤ) (out : List Bool) → samples ≡ a.samples → WroteLeast a number out samples → (bytes : List ℕ) → bits_in bytes ≡ closed out
    → IsLeast a number bytes
unfolding candidates spelled
least_is a number samples out e w bytes h =
    let v : WroteLeast a number out a.samples = subst (WroteLeast a number out) e w in
    (v.0, v.1, h ∙ ap (λ l. closed l) v.2)
