-- Of zeros the frames are in shape.
use Rattle.std.proofs.Common.{◌≡◌, ℕ, zero, suc, ◌+◌, ◌-◌, ◌*◌, ◌/◌, ◌^◌, ◌<◌, ◌≤◌, min, pos, ◌+ℤ◌, ◌<ℤ◌, ◌≤ℤ◌, Bool, true, false, cond, [], ◌∷◌, length}
use Rattle.std.proofs.Common.{refl, sym, ap, subst, ◌∙◌, arith}
use Rattle.std.specs.Prelude.{replicate}
use Rattle.std.specs.Int.{div_ceil}
use Rattle.std.proofs.Math.Nat.{mul-div_cancel}
use Rattle.std.proofs.lemmas.Int.{ints}
use Rattle.std.proofs.lemmas.List.{length-replicate}
use Rattle.std.proofs.lemmas.List.Elements.{All-replicate}
use Rattle.ff_time.specs.Fraction.{Fraction}
use Rattle.ff_frame.specs.Audio.{FitsBits}
use Rattle.ff_frame.specs.declared.head.Codec.{Codec}
use Rattle.ff_frame.specs.declared.head.StreamHead.{StreamHead}
use Rattle.ff_frame.specs.declared.head.StreamHead.TheVariants.{Audio as AudioHead, Video as VideoHead}
use Rattle.ff_stream.specs.declared.item.Item.{Item}
use Rattle.ff_stream.specs.declared.item.Lane.TheVariants.{Frames}
use Rattle.ff_stream.specs.Times.{end_ticks}
use Rattle.ff_stream.specs.Lanes.{IsItemFor}
use Rattle.ff_stream.specs.Within.{before_pass}
use Rattle.ff_concat.specs.Silences.{silent_frame, silent_frames, filled}
use Rattle.ff_concat.specs.Tails.{last_end}
use Rattle.ff_concat.specs.laws.Fed.{TakesZeros}
use Rattle.ff_concat.proofs.Shapes.{IsFine, none_fine, turn_fine, fine_from}

some_power : (n : ℕ) → 0 < 2 ^ n
some_power zero = omega arith
some_power (suc n) = let p = some_power n in omega (arith, p)

later_end : (a c : ℕ) → 0 < c → pos a <ℤ (pos a +ℤ pos c)
later_end a c some = omega (arith, ints, some)

from_zero : (a : ℕ) → pos 0 ≤ℤ pos a
from_zero a = omega (arith, ints)

same_time : (a : ℕ) → pos a ≤ℤ pos a
same_time a = omega (arith, ints)

-- how many frames there are, and how long the first is
more_left : (m a b : ℕ) → suc m ≡ div_ceil (b - a) 1024 → a < b
more_left m a b e = omega (arith, e)

others_left : (m a b : ℕ) → suc m ≡ div_ceil (b - a) 1024 → m ≡ div_ceil (b - (a + 1024)) 1024
others_left m a b e = omega (arith, e)

module _ (tb : Fraction) (rate bits channels : ℕ) (codec : Codec) (takes : TakesZeros (AudioHead tb rate bits channels codec)) where
  abbrev head : StreamHead
  head = AudioHead tb rate bits channels codec

  lasts : (count : ℕ) → length (replicate (count * channels) (pos 0)) / channels ≡ count
  lasts count = ap (λ (n : ℕ). n / channels) (length-replicate (count * channels) (pos 0)) ∙ mul-div_cancel count takes.0

  ends_at : (a count : ℕ) → end_ticks (silent_frame rate bits channels a count) ≡ a + count
  ends_at a count = ap (λ (n : ℕ). a + n) (lasts count)

  -- so many zeros are an item of the stream
  zeros_item : (a count : ℕ) → 0 < count → count ≤ 1024 → IsItemFor (Frames head) (silent_frame rate bits channels a count)
  zeros_item a count some few = record {
    fits = record {
      rate_is = refl;
      bits_are = refl;
      channels_are = refl;
      audio = record {
        some_bits = takes.2;
        few_bits = takes.3;
        some_channels = takes.0;
        few_channels = takes.1;
        sample_frames = count;
        interleaved = length-replicate (count * channels) (pos 0);
        some_sample_frames = omega (arith, some);
        few_sample_frames = omega (arith, few);
        within_bits = All-replicate (FitsBits bits) (count * channels) (pos 0) (some_power (bits - 1));
      };
    };
    not_negative = from_zero a;
    lasts = λ t. subst (λ (n : ℕ). pos a <ℤ (pos a +ℤ pos n)) (sym (lasts count)) (later_end a count some);
  }

  -- a frame, and the others where it passes no limit
  frame_before : (passes : ℕ → Item → Bool) (m a b g : ℕ) (c : Bool) → a < b
      → IsFine head (a + 1024) (before_pass passes (g + 1) (silent_frames rate bits channels m (a + 1024) b))
      → IsFine head a (cond c [] (silent_frame rate bits channels a (min 1024 (b - a)) ∷ before_pass passes (g + 1) (silent_frames rate bits channels m (a + 1024) b)))
  frame_before passes m a b g true lt rest = none_fine head a
  frame_before passes m a b g false lt rest =
      let y = silent_frame rate bits channels a (min 1024 (b - a)) in
      let others = before_pass passes (g + 1) (silent_frames rate bits channels m (a + 1024) b) in
      let is = ends_at a (min 1024 (b - a)) in
      turn_fine head a y others (zeros_item a (min 1024 (b - a)) (omega (arith, lt)) (omega arith)) (same_time a)
      (fine_from head (end_ticks y) (a + 1024) others (omega (arith, is)) rest)

  frames_fine : (passes : ℕ → Item → Bool) (n a b g : ℕ) → n ≡ div_ceil (b - a) 1024 → IsFine head a (before_pass passes g (silent_frames rate bits channels n a b))
  frames_fine passes zero a b g e = none_fine head a
  frames_fine passes (suc m) a b g e =
      frame_before passes m a b g (passes g (silent_frame rate bits channels a (min 1024 (b - a)))) (more_left m a b e)
      (frames_fine passes m (a + 1024) b (g + 1) (others_left m a b e))

  frames_end : (n a b e : ℕ) → n ≡ div_ceil (b - a) 1024 → e ≤ b → last_end e (silent_frames rate bits channels n a b) ≤ b
  frames_end zero a b e is le = le
  frames_end (suc m) a b e is le =
      let lt : a < b = more_left m a b is in
      let end = ends_at a (min 1024 (b - a)) in
      frames_end m (a + 1024) b (end_ticks (silent_frame rate bits channels a (min 1024 (b - a)))) (others_left m a b is) (omega (arith, end, lt))

-- zeros from one time to another are in shape, up to a limit
pub filled_fine : (h : StreamHead) (passes : ℕ → Item → Bool) (a b g : ℕ) → TakesZeros h → IsFine h a (before_pass passes g (filled h a b))
filled_fine (AudioHead tb rate bits channels codec) passes a b g takes = frames_fine tb rate bits channels codec takes passes (div_ceil (b - a) 1024) a b g refl
filled_fine (VideoHead tb format width height sar_num sar_den) passes a b g takes = none_fine (VideoHead tb format width height sar_num sar_den) a

-- and they end no later than there
pub filled_end : (h : StreamHead) (a b : ℕ) → TakesZeros h → a ≤ b → last_end a (filled h a b) ≤ b
filled_end (AudioHead tb rate bits channels codec) a b takes le = frames_end tb rate bits channels codec takes (div_ceil (b - a) 1024) a b a refl le
filled_end (VideoHead tb format width height sar_num sar_den) a b takes le = le
