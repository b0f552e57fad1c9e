-- What is known of a coded stream once it has ended (RFC 9639, section 8.2).
use Rattle.std.specs.Prelude.{◌≡◌, ◌≢◌, ℕ, ℤ, ◌+◌, ◌*◌, ◌/◌, min, max, List, [], ◌∷◌, length, map, Option, Some, None}
use Rattle.std.specs.List.{flat_map, sum_by}
use Rattle.md5.specs.Md5.{md5, Holds}
use Rattle.ff_bits.specs.Integers.{unsigned, number_bytes}
use Rattle.ff_frame.specs.declared.audio.AFrame.{AFrame}
use Rattle.ff_frame.specs.declared.totals.Totals.{Totals}
use Rattle.ff_flac_enc.specs.declared.counter.Counter.{Counter}
use Rattle.ff_flac_enc.specs.declared.counter.Sizes.{Sizes}

-- a frame and how many bytes it was coded in
pub record Added : Type 0 where
  pub frame : AFrame
  pub len : ℕ

abbrev pub added : AFrame → ℕ → Added
added frame len = record { frame = frame; len = len }

abbrev pub sample_frames : AFrame → ℕ
sample_frames f = length f.samples / f.channels

-- the least number of whole bytes that hold so many bits
abbrev pub width_of : ℕ → ℕ
width_of bits = (bits + 7) / 8

-- a sample in so many bytes, as two's complement
abbrev pub sample_bytes : ℕ → ℤ → List ℕ
sample_bytes width sample = number_bytes width (unsigned (8 * width) sample)

abbrev pub samples_bytes : ℕ → List ℤ → List ℕ
samples_bytes width samples = flat_map (sample_bytes width) samples

-- the samples of a frame, interleaved
abbrev pub frame_bytes : AFrame → List ℕ
frame_bytes f = samples_bytes (width_of f.bits) f.samples

-- the least of some numbers, and the greatest; 0 of none
abbrev pub least_of : List ℕ → ℕ
least_of [] = 0
least_of (x ∷ []) = x
least_of (x ∷ y ∷ ys) = min x (least_of (y ∷ ys))

abbrev pub greatest_of : List ℕ → ℕ
greatest_of [] = 0
greatest_of (x ∷ xs) = max x (greatest_of xs)

abbrev pub lens : List Added → List ℕ
lens all = map (λ a. a.len) all

abbrev pub frames_bytes : List Added → List ℕ
frames_bytes all = flat_map (λ a. frame_bytes a.frame) all

-- the totals of these frames
unfoldable pub totals_of : List Added → Totals
totals_of all = record {
  min_frame = least_of (lens all);
  max_frame = greatest_of (lens all);
  samples = sum_by (λ a. sample_frames a.frame) all;
  md5 = md5 (frames_bytes all);
}

-- ---- the state

-- the number of sample frames so far
abbrev pub counted : Counter → ℕ
counted counter = counter.samples

abbrev pub HaveSizes : Option Sizes → List ℕ → Type 0
HaveSizes None lens = lens ≡ []
HaveSizes (Some sizes) lens = (length lens ≢ 0) × (sizes.least ≡ least_of lens) × (sizes.greatest ≡ greatest_of lens)

-- These frames were added, and no others.
pub record Counts (counter : Counter) (all : List Added) : Type 0 where
  pub sizes : HaveSizes counter.sizes (lens all)
  pub samples : counter.samples ≡ sum_by (λ a. sample_frames a.frame) all
  pub message : Holds counter.hasher (frames_bytes all)
