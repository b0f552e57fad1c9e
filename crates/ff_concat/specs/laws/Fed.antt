-- When the inputs of segments are fit.
use Rattle.std.specs.Prelude.{ℕ, ◌+◌, ◌*◌, ◌<◌, ◌≤◌, List, length, slice_index_or}
use Rattle.ff_time.specs.Fraction.{IsBase}
use Rattle.ff_frame.specs.declared.head.StreamHead.{StreamHead}
use Rattle.ff_frame.specs.declared.head.StreamHead.TheVariants.{Audio as AudioHead, Video as VideoHead}
use Rattle.ff_frame.specs.Heads.{base_of_head, IsHead}
use Rattle.ff_stream.specs.declared.item.Lane.TheVariants.{Frames}
use Rattle.ff_stream.specs.Lanes.{IsValid}
use Rattle.ff_filter.specs.Joins.{Ports}

-- audio of this head may be zeros: it has 1 to 8 channels, and samples of 4 to 32 bits
abbrev pub TakesZeros : StreamHead → Type 0
TakesZeros (AudioHead tb rate bits channels codec) = (1 ≤ channels) × (channels ≤ 8) × (4 ≤ bits) × (bits ≤ 32)
TakesZeros (VideoHead tb format width height sar_num sar_den) = Unit {0}

-- a head whose streams can follow one another: its time base is one, and its audio may be zeros
pub record CanFollow (h : StreamHead) : Type 0 where
  pub base : IsBase (base_of_head h)
  pub zeros : TakesZeros h

-- audio of a stream may be zeros
pub head_takes_zeros : (h : StreamHead) → IsHead h → TakesZeros h
head_takes_zeros (AudioHead tb rate bits channels codec) is = is
head_takes_zeros (VideoHead tb format width height sar_num sar_den) is = tt

-- each stream of n segments is valid for the head that it has in a segment
abbrev pub AreFed : List StreamHead → ℕ → Ports → Type 0
AreFed heads n ss = (k q : ℕ) (d : StreamHead) → k < n → q < length heads → IsValid (Frames (slice_index_or heads q d)) (ss (k * length heads + q))
