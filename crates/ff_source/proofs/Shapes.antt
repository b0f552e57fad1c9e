-- Frames of source filters are in shape for their heads.
use Rattle.std.proofs.Common.{◌≡◌, ℕ, ◌+◌, ◌-◌, ◌*◌, ◌/◌, ◌<◌, ◌≤◌, ◌^◌, min, pos, ◌+ℤ◌, ◌≤ℤ◌, ◌<ℤ◌, List, length, replicate, All, refl, ap, sym, ◌∙◌, subst, arith, length-append, mul-div_cancel, mul-le-mul_right, le_trans}
use Rattle.std.proofs.lemmas.Int.{ints}
use Rattle.std.proofs.lemmas.List.{length-replicate}
use Rattle.std.proofs.lemmas.List.Elements.{All-replicate}
use Rattle.std.proofs.lemmas.Grind.{div_ceil_times}
use Rattle.std.specs.Int.{div_ceil}
use Rattle.ff_time.specs.Fraction.{Fraction}
use Rattle.ff_frame.specs.Audio.{FitsBits, IsAudio}
use Rattle.ff_frame.specs.Video.{IsSide, IsVideo, half}
use Rattle.ff_frame.specs.Heads.{base_of_head}
use Rattle.ff_frame.specs.declared.video.Format.TheVariants.{C420}
use Rattle.ff_stream.specs.declared.item.Item.{Item}
use Rattle.ff_stream.specs.declared.item.Lane.{Lane}
use Rattle.ff_stream.specs.declared.item.Lane.TheVariants.{Frames}
use Rattle.ff_stream.specs.Lanes.{IsItemFor, Follows, AreInShape, IsValid, EndsInTime}
use Rattle.ff_stream.specs.Times.{end_of, ticks, IsInTime}
use Rattle.ff_stream.specs.Within.{within, passes_limits}
use Rattle.ff_stream.specs.laws.WithinLaws.{within_valid}
use Rattle.ff_source.specs.declared.color.Color.{Color}
use Rattle.ff_source.specs.declared.made.Made.{Made}
use Rattle.ff_source.specs.declared.made.Made.TheVariants.{Pictures, Silence}
use Rattle.ff_source.specs.Numbered.{numbered}
use Rattle.ff_source.specs.Colors.{luma_of, color_planes, color_frame, color_head}
use Rattle.ff_source.specs.Silences.{silence_frame, silence_head}
use Rattle.ff_source.specs.Sources.{CanGive, head_of, frames_of, stream_of, frame_of, count_of, end_in}
use Rattle.ff_source.proofs.Numbering.{length-numbered, all_numbered, order_numbered}

-- a picture has all samples of its planes
pub color_video : (color : Color) (width height : ℕ) → IsSide width → IsSide height → IsVideo C420 width height (color_planes color width height)
color_video color width height a b =
    let luma : List ℕ = replicate (width * height) (luma_of color) in
    let chroma : List ℕ = replicate (2 * (half width * half height)) 128 in
    record {
      columns = a;
      rows = b;
      samples = omega (arith, length-append luma chroma, length-replicate {A = ℕ} (width * height) (luma_of color), length-replicate {A = ℕ} (2 * (half width * half height)) 128);
    }

picture_item : (base : Fraction) (color : Color) (width height n : ℕ) → IsSide width → IsSide height → IsItemFor (Frames (color_head base width height)) (color_frame color width height n)
picture_item base color width height n a b = record {
  fits = record { format_is = refl; columns_are = refl; rows_are = refl; video = color_video color width height a b };
  not_negative = omega (arith, ints);
  lasts = λ timed. omega (arith, ints);
}

picture_follows : (base : Fraction) (color : Color) (width height n : ℕ) → Follows (Frames (color_head base width height)) (color_frame color width height n) (color_frame color width height (n + 1))
picture_follows base color width height n = record {
  timed = tt;
  starts = λ timed. omega (arith, ints);
  ends = λ timed. omega (arith, ints);
  apart = λ timed. tt;
}

-- a frame of silence has 1 to 1,024 sample frames
pub silence_audio : (channels count n : ℕ) → 1 ≤ channels → channels ≤ 2 → n * 1024 < count → IsAudio 16 channels (replicate (min 1024 (count - n * 1024) * channels) (pos 0))
silence_audio channels count n a b lt = record {
  some_bits = omega arith;
  few_bits = omega arith;
  some_channels = a;
  few_channels = omega (arith, b);
  sample_frames = min 1024 (count - n * 1024);
  interleaved = length-replicate (min 1024 (count - n * 1024) * channels) (pos 0);
  some_sample_frames = omega (arith, lt);
  few_sample_frames = omega arith;
  within_bits = All-replicate (FitsBits 16) (min 1024 (count - n * 1024) * channels) (pos 0) (omega arith);
}

-- it ends so many ticks after its start
sound_end : (rate channels count n : ℕ) → 1 ≤ channels → end_of (silence_frame rate channels count n) ≡ pos (n * 1024 + min 1024 (count - n * 1024))
sound_end rate channels count n a =
    let m = min 1024 (count - n * 1024) in
    let long : length (replicate (m * channels) (pos 0)) / channels ≡ m = ap (λ k. k / channels) (length-replicate (m * channels) (pos 0)) ∙ mul-div_cancel m (omega (arith, a)) in
    ap (λ k. pos (n * 1024) +ℤ pos k) long

sound_item : (base : Fraction) (channels count n : ℕ) → 1 ≤ channels → channels ≤ 2 → n * 1024 < count → IsItemFor (Frames (silence_head base channels)) (silence_frame base.den channels count n)
sound_item base channels count n a b lt = record {
  fits = record { rate_is = refl; bits_are = refl; channels_are = refl; audio = silence_audio channels count n a b lt };
  not_negative = omega (arith, ints);
  lasts = λ timed. subst (λ z. pos (n * 1024) <ℤ z) (sym (sound_end base.den channels count n a)) (omega (arith, ints, lt));
}

sound_follows : (base : Fraction) (channels count n : ℕ) → 1 ≤ channels → (n + 1) * 1024 < count → Follows (Frames (silence_head base channels)) (silence_frame base.den channels count n) (silence_frame base.den channels count (n + 1))
sound_follows base channels count n a lt =
    let before = sound_end base.den channels count n a in
    let after = sound_end base.den channels count (n + 1) a in
    record {
      timed = tt;
      starts = λ timed. omega (arith, ints);
      ends = λ timed. subst (λ z. z ≤ℤ end_of (silence_frame base.den channels count (n + 1))) (sym before) (subst (λ z. pos (n * 1024 + min 1024 (count - n * 1024)) ≤ℤ z) (sym after) (omega (arith, ints, lt)));
      apart = λ timed. subst (λ z. z ≤ℤ pos ((n + 1) * 1024)) (sym before) (omega (arith, ints));
    }

-- a frame that is there starts before the end
pub starts_before : (count n : ℕ) → n < div_ceil count 1024 → n * 1024 < count
starts_before count n lt = omega (arith, lt, (div_ceil_times count 1024 (omega arith)).1)

pub frames_shape : (made : Made) → CanGive made → AreInShape (Frames (head_of made)) (frames_of made)
frames_shape (Pictures p) can = record {
  each = all_numbered (IsItemFor (Frames (color_head p.base p.width p.height))) (color_frame p.color p.width p.height) 0 p.count (λ m a b. picture_item p.base p.color p.width p.height m can.0 can.1);
  in_order = order_numbered (Frames (color_head p.base p.width p.height)) (color_frame p.color p.width p.height) 0 p.count (λ m a b. picture_follows p.base p.color p.width p.height m);
}
frames_shape (Silence s) can = record {
  each = all_numbered (IsItemFor (Frames (silence_head s.base s.channels))) (silence_frame s.base.den s.channels s.count) 0 (div_ceil s.count 1024)
      (λ m a b. sound_item s.base s.channels s.count m can.0 can.1 (starts_before s.count m (omega (arith, b))));
  in_order = order_numbered (Frames (silence_head s.base s.channels)) (silence_frame s.base.den s.channels s.count) 0 (div_ceil s.count 1024)
      (λ m a b. sound_follows s.base s.channels s.count m can.0 (starts_before s.count (m + 1) (omega (arith, b))));
}

ends_by : (lane : Lane) (base : Fraction) (x : Item) (end : ℕ) → ticks (end_of x) ≤ end → IsInTime base end → IsInTime base (ticks (end_of x))
ends_by lane base x end le h = le_trans (mul-le-mul_right base.num le) h

frames_end : (made : Made) → CanGive made → IsInTime (base_of_head (head_of made)) (end_in made) → All (EndsInTime (Frames (head_of made))) (frames_of made)
frames_end (Pictures p) can h =
    all_numbered (EndsInTime (Frames (color_head p.base p.width p.height))) (color_frame p.color p.width p.height) 0 p.count
    (λ m a b. ends_by (Frames (color_head p.base p.width p.height)) p.base (color_frame p.color p.width p.height m) p.count (omega (arith, b)) h)
frames_end (Silence s) can h =
    all_numbered (EndsInTime (Frames (silence_head s.base s.channels))) (silence_frame s.base.den s.channels s.count) 0 (div_ceil s.count 1024)
    (λ m a b. ends_by (Frames (silence_head s.base s.channels)) s.base (silence_frame s.base.den s.channels s.count m) s.count
    (subst (λ z. ticks z ≤ s.count) (sym (sound_end s.base.den s.channels s.count m can.0)) (omega (arith, starts_before s.count m (omega (arith, b))))) h)

pub stream_limited : (made : Made) → CanGive made → IsValid (Frames (head_of made)) (within (passes_limits (Frames (head_of made))) (stream_of made))
stream_limited made can = within_valid (Frames (head_of made)) (stream_of made) (frames_shape made can)

pub stream_valid : (made : Made) → CanGive made → length (frames_of made) ≤ 2 ^ 40 → IsInTime (base_of_head (head_of made)) (end_in made) → IsValid (Frames (head_of made)) (stream_of made)
stream_valid made can few h = record { shape = frames_shape made can; few = few; in_time = frames_end made can h }

-- the frames are as many as there are
pub frames_count : (made : Made) → length (frames_of made) ≡ count_of made
frames_count (Pictures p) = length-numbered (color_frame p.color p.width p.height) 0 p.count
frames_count (Silence s) = length-numbered (silence_frame s.base.den s.channels s.count) 0 (div_ceil s.count 1024)

-- they are numbered from 0
pub frames_numbered : (made : Made) → numbered (frame_of made) 0 (count_of made) ≡ frames_of made
frames_numbered (Pictures p) = refl
frames_numbered (Silence s) = refl

-- where none was given, all are left
pub all_left : (made : Made) → numbered (frame_of made) 0 (count_of made - 0) ≡ frames_of made
all_left made = ap (λ k. numbered (frame_of made) 0 k) (omega arith) ∙ frames_numbered made
