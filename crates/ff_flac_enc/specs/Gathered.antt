-- The samples of frames, gathered in blocks.
use Rattle.std.specs.Prelude.{◌≡◌, ℕ, ℤ, pos, negsuc, ◌+◌, ◌-◌, ◌*◌, ◌/◌, ◌%◌, ◌^◌, ◌<◌, ◌≤◌, ◌⊎◌, ◌+ℤ◌, ◌<ℤ◌, Bool, true, false, List, [], ◌∷◌, length, map, take, drop, slice_index_or, Option, Some, None}
use Rattle.std.specs.List.{flat_map, range_with_len, All}
use Rattle.std.specs.Coded.{le_prop}
use Rattle.std.proofs.Math.Nat.{ℕ_set}
use Rattle.std.proofs.Math.Path.{fun_ext}
use Rattle.ff_frame.specs.declared.audio.AFrame.{AFrame}
use Rattle.ff_frame.specs.Audio.{FitsBits}
use Rattle.ff_frame.specs.Frame.{audio_frame}
use Rattle.ff_flac_enc.specs.declared.format.Format.{Format}

-- what all frames of a stream have in common
abbrev pub format_of : AFrame → Format
format_of f = record { rate = f.rate; bits = f.bits; channels = f.channels }

-- the samples of a block that isn't the last: 4,096 of each channel
abbrev pub full_size : ℕ → ℕ
full_size channels = 4096 * channels

-- the samples of all frames
abbrev pub all_samples : List AFrame → List ℤ
all_samples frames = flat_map (λ f. f.samples) frames

-- How many blocks of this size are due of so many samples: where all came, the rest is the last one.
abbrev pub count_due : ℕ → Bool → ℕ → ℕ
count_due size true n = (n + (size - 1)) / size
count_due size false n = n / size

-- block k of samples whose first frame is f; it starts as many sample frames after f as stand before it
unfoldable pub block_at : AFrame → List ℤ → ℕ → AFrame
block_at f samples k =
    audio_frame (f.pts +ℤ pos (4096 * k)) f.rate f.bits f.channels (take (full_size f.channels) (drop (k * full_size f.channels) samples))

abbrev pub blocks_from : Bool → AFrame → List ℤ → List AFrame
blocks_from ended f samples = map (block_at f samples) (range_with_len 0 (count_due (full_size f.channels) ended (length samples)))

-- the blocks that are due of these frames, where all came and where more may come
abbrev pub blocks_due : Bool → List AFrame → List AFrame
blocks_due ended [] = []
blocks_due ended (f ∷ fs) = blocks_from ended f (all_samples (f ∷ fs))

-- the samples of these frames end before tick 2^62, counted from the first frame's time
abbrev pub EndInTime : List AFrame → Type 0
EndInTime [] = Unit {0}
EndInTime (f ∷ fs) = (f.pts +ℤ pos (length (all_samples (f ∷ fs)) / f.channels)) <ℤ pos (2 ^ 62)

-- a frame with each of its samples changed, and their bits
abbrev pub changed : ℕ → (ℤ → ℤ) → AFrame → AFrame
changed bits h f = audio_frame f.pts f.rate bits f.channels (map h f.samples)

-- how many of the samples that wait are the next block: a full one, or the rest where all came, or none yet
abbrev pub IsDue : Bool → ℕ → ℕ → ℕ → Type 0
IsDue ended full waiting count =
    ((full ≤ waiting) × (count ≡ full)) ⊎ (((waiting < full) × (ended ≡ true) × (count ≡ waiting)) ⊎ ((waiting < full) × (ended ≡ false) × (count ≡ 0)))

-- ---- the state

-- 1 to 8 channels of 4 to 32 bits, and samples of these
pub record IsKept (format : Format) (waiting : List ℤ) : Type 0 where
  pub some_channels : 1 ≤ format.channels
  pub few_channels : format.channels ≤ 8
  pub some_bits : 4 ≤ format.bits
  pub few_bits : format.bits ≤ 32
  pub whole : length waiting % format.channels ≡ 0
  pub fit : All (FitsBits format.bits) waiting

-- nothing waits before the first frame
abbrev pub Holds : Option Format → List ℤ → Type 0
Holds None waiting = length waiting ≡ 0
Holds (Some format) waiting = IsKept format waiting

FitsBits-prop : (bits : ℕ) (z : ℤ) → IsProp (FitsBits bits z)
FitsBits-prop bits (pos n) = le_prop
FitsBits-prop bits (negsuc n) = le_prop

AllFit-prop : (bits : ℕ) (xs : List ℤ) → IsProp (All (FitsBits bits) xs)
AllFit-prop bits xs p q = fun_ext (λ k. fun_ext (λ d. fun_ext (λ lt. FitsBits-prop bits (slice_index_or xs k d) (p k d lt) (q k d lt))))

IsKept-prop : (format : Format) (waiting : List ℤ) → IsProp (IsKept format waiting)
IsKept-prop format waiting = hlevel (le_prop, ℕ_set, AllFit-prop format.bits waiting)

pub Holds-prop : (format : Option Format) (waiting : List ℤ) → IsProp (Holds format waiting)
Holds-prop None waiting = ℕ_set _ _
Holds-prop (Some format) waiting = IsKept-prop format waiting
