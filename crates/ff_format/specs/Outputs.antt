-- A format as it is written: which streams it can write, and how; and what it owes, that it can write what its row takes.
use Rattle.std.specs.Prelude.{◌≡◌, ℕ, ◌≤◌, true, List, [], ◌∷◌, length, None}
use Rattle.ff_time.specs.Fraction.{Fraction}
use Rattle.ff_frame.specs.Codecs.{IsFlacCodec}
use Rattle.ff_frame.specs.declared.head.Codec.{Codec}
use Rattle.ff_frame.specs.declared.head.StreamHead.{StreamHead}
use Rattle.ff_frame.specs.declared.head.StreamHead.TheVariants.{Audio, Video}
use Rattle.ff_frame.specs.declared.video.Format.{Format}
use Rattle.ff_format.specs.Formats.{takes_sound}
use Rattle.ff_format.specs.Layouts.{Layout, streamed_of}
use Rattle.ff_format.specs.declared.format.OutputOptions.{OutputOptions}
use Rattle.ff_format.specs.declared.format.Taken.{Taken}

-- one stream alone, of which this is true
abbrev pub IsAlone : (StreamHead → Type 0) → List StreamHead → Type 0
IsAlone Takes [] = ⊥
IsAlone Takes (head ∷ []) = Takes head
IsAlone Takes (head ∷ other ∷ heads) = ⊥

-- how nothing is written
abbrev pub no_layout : Layout
no_layout = record { header = []; text = λ stream packet. []; tail = λ packets. []; last = λ n totals. None; longest = None }

abbrev pub layout_of_first : (StreamHead → Layout) → List StreamHead → Layout
layout_of_first layout [] = no_layout
layout_of_first layout (head ∷ heads) = layout head

-- A format that is written.
pub record OutputFormat : Type 1 where
  -- it can write packets of streams of these heads,
  pub CanWrite : List StreamHead → Type 0
  -- and how it writes them, by what an output's options say
  pub layout : OutputOptions → List StreamHead → Layout

-- a format of one stream alone
abbrev pub of_one : (StreamHead → Type 0) → (StreamHead → Layout) → OutputFormat
of_one Takes layout = record { CanWrite = IsAlone Takes; layout = λ options heads. layout_of_first layout heads }

-- the same, where bytes of it are replaced unless it is a stream
abbrev pub of_one_patched : (StreamHead → Type 0) → (StreamHead → Layout) → OutputFormat
of_one_patched Takes layout = record { CanWrite = IsAlone Takes; layout = λ options heads. streamed_of options.streamed (layout_of_first layout heads) }

-- ---- what it owes

-- the bits of a sample that FLAC can code; any number of another codec
abbrev pub HasBits : Codec → ℕ → Type 0
HasBits codec bits = IsFlacCodec codec → (4 ≤ bits) × (bits ≤ 24)

-- It can write what its row takes.
pub record WritesTaken (taken : Taken) (format : OutputFormat) : Type 0 where
  -- a stream of sound of 1 to 8 channels, where the codec can code so many bits,
  pub sound : (tb : Fraction) (rate bits channels : ℕ) (codec : Codec) → 1 ≤ channels → channels ≤ 8 → HasBits codec bits
      → takes_sound taken.sound codec rate ≡ true → format.CanWrite (Audio tb rate bits channels codec ∷ [])
  -- one of pictures,
  pub pictures : (tb : Fraction) (pixels : Format) (width height sar_num sar_den : ℕ)
      → taken.pictures ≡ true → format.CanWrite (Video tb pixels width height sar_num sar_den ∷ [])
  -- and any streams, where it takes several
  pub several : (heads : List StreamHead) → 2 ≤ length heads → length heads ≤ taken.streams → format.CanWrite heads
