-- Source filters: what each is by its name and arguments, and the frames that it gives.
use Rattle.std.specs.Prelude.{ℕ, ◌<◌, ◌≤◌, ◌^◌, Option, Some, None, List, if◌then◌else◌, codes, Result}
use Rattle.std.specs.Coded.{le_prop}
use Rattle.std.specs.Int.{div_ceil}
use Rattle.ff_frame.specs.declared.config.ConfigError.{ConfigError}
use Rattle.ff_frame.specs.declared.head.StreamHead.{StreamHead}
use Rattle.ff_frame.specs.Video.{IsSide}
use Rattle.ff_lang.specs.declared.graph.Arg.{Arg}
use Rattle.ff_stream.specs.declared.item.Item.{Item}
use Rattle.ff_stream.specs.Stream.{Stream, whole_stream}
use Rattle.ff_lang.specs.declared.source.SourceName.{SourceName}
use Rattle.ff_lang.specs.declared.source.SourceName.TheVariants.{Color, ANullSrc}
use Rattle.ff_source.specs.declared.made.Made.{Made}
use Rattle.ff_source.specs.declared.made.Made.TheVariants.{Pictures, Silence}
use Rattle.ff_source.specs.Colors.{color_frame, color_frames, color_head}
use Rattle.ff_source.specs.Silences.{silence_frame, silence_frames, silence_head}
use Rattle.ff_source.specs.ColorOptions.{IsColor}
use Rattle.ff_source.specs.SilenceOptions.{IsSilence}

-- what a source filter gives by its arguments, or why it is refused
abbrev pub IsSource : SourceName → List Arg → Result Made ConfigError → Type 0
IsSource Color args r = IsColor args r
IsSource ANullSrc args r = IsSilence args r

abbrev pub head_of : Made → StreamHead
head_of (Pictures p) = color_head p.base p.width p.height
head_of (Silence s) = silence_head s.base s.channels

-- the frames that it gives
abbrev pub frames_of : Made → List Item
frames_of (Pictures p) = color_frames p.color p.width p.height p.count
frames_of (Silence s) = silence_frames s.base.den s.channels s.count

-- they are its whole stream
abbrev pub stream_of : Made → Stream Item
stream_of made = whole_stream (frames_of made)

-- how many frames there are
abbrev pub count_of : Made → ℕ
count_of (Pictures p) = p.count
count_of (Silence s) = div_ceil s.count 1024

-- when the last of them ends, in ticks
abbrev pub end_in : Made → ℕ
end_in (Pictures p) = p.count
end_in (Silence s) = s.count

-- the frame of a number
abbrev pub frame_of : Made → ℕ → Item
frame_of (Pictures p) n = color_frame p.color p.width p.height n
frame_of (Silence s) n = silence_frame s.base.den s.channels s.count n

-- a picture has 1 to 16,384 columns and rows, sound one or two channels, and all times are ticks of 63 bits
abbrev pub CanGive : Made → Type 0
CanGive (Pictures p) = IsSide p.width × IsSide p.height × (p.count < 2 ^ 63)
CanGive (Silence s) = (1 ≤ s.channels) × (s.channels ≤ 2) × (s.count < 2 ^ 63)

pub CanGive-prop : (made : Made) → IsProp (CanGive made)
CanGive-prop (Pictures p) = hlevel le_prop
CanGive-prop (Silence s) = hlevel le_prop
