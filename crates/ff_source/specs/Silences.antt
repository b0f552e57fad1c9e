-- Silence of 16 bits.
use Rattle.std.specs.Prelude.{ℕ, ◌*◌, ◌-◌, min, List, replicate, pos, Option, Some, None, if◌then◌else◌, codes}
use Rattle.std.specs.Str.{bytes_eq}
use Rattle.std.specs.Int.{div_ceil}
use Rattle.ff_time.specs.Fraction.{Fraction}
use Rattle.ff_frame.specs.declared.head.Codec.TheVariants.{PcmS16le}
use Rattle.ff_frame.specs.declared.head.StreamHead.{StreamHead}
use Rattle.ff_frame.specs.declared.head.StreamHead.TheVariants as head
use Rattle.ff_frame.specs.Frame.{audio_frame}
use Rattle.ff_stream.specs.declared.item.Item.{Item}
use Rattle.ff_stream.specs.declared.item.Item.TheVariants.{Audio}
use Rattle.ff_source.specs.Numbered.{numbered}

-- the channels of a layout
abbrev pub channels_named : List ℕ → Option ℕ
channels_named text = if bytes_eq text (codes "mono") then Some 1 else (if bytes_eq text (codes "stereo") then Some 2 else None)

-- The frame of number n starts with sample frame 1,024 n. It has 1,024 of so many sample frames in all, or as many as are left.
abbrev pub silence_frame : ℕ → ℕ → ℕ → ℕ → Item
silence_frame rate channels count n = Audio (audio_frame (pos (n * 1024)) rate 16 channels (replicate (min 1024 (count - n * 1024) * channels) (pos 0)))

-- so many sample frames of zeros, in frames of 1,024 of which the last has the rest
abbrev pub silence_frames : ℕ → ℕ → ℕ → List Item
silence_frames rate channels count = numbered (silence_frame rate channels count) 0 (div_ceil count 1024)

-- the time base is one over the rate
abbrev pub silence_head : Fraction → ℕ → StreamHead
silence_head base channels = head.Audio base base.den 16 channels PcmS16le
