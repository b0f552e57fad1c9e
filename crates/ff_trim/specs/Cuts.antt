-- Cuts of streams in time: from a start on, which is taken from all times, to below an end.
use Rattle.std.specs.Prelude.{ℕ, zero, suc, ◌+◌, ◌*◌, ◌-◌, ◌<◌, ◌^◌, ◌==◌, min, Bool, true, false, not, ◌&&◌, ◌||◌, cond, nat_le, Option, None, Some, is_some, option_map}
use Rattle.std.specs.Prelude.{List, [], ◌∷◌, length, take}
use Rattle.std.specs.Int.{div_ceil}
use Rattle.std.proofs.Common.{arith}
use Rattle.ff_time.specs.Fraction.{Fraction}
use Rattle.ff_time.specs.declared.cut.TimeCut.{TimeCut}
use Rattle.ff_frame.specs.declared.head.StreamHead.{StreamHead}
use Rattle.ff_frame.specs.declared.head.StreamHead.TheVariants.{Audio, Video}
use Rattle.ff_frame.specs.Heads.{base_of_head}
use Rattle.ff_stream.specs.Stream.{whole, whole_stream}
use Rattle.ff_stream.specs.Ports.{nothing}
use Rattle.ff_filter.specs.declared.after.After.{After}
use Rattle.ff_filter.specs.declared.after.After.TheVariants.{More, Whole}
use Rattle.ff_filter.specs.declared.range.Range.{Range}
use Rattle.ff_filter.specs.Joins.{Flow, Ports}
use Rattle.ff_filter.specs.Shifts.{shifted}
use Rattle.ff_vfilter.specs.Trims.{trimmed}
use Rattle.ff_afilter.specs.Trims.{sound_trimmed}
use Rattle.ff_trim.specs.declared.counted.OutputCut.{OutputCut}

-- the least number of ticks that is at least so many microseconds
abbrev pub ticks_at : Fraction → ℕ → ℕ
ticks_at tb us = div_ceil (us * tb.den) (tb.num * 1000000)

-- ticks of 63 bits, which all times of at most 10^15 microseconds are in a time base
abbrev pub in_bits : ℕ → ℕ
in_bits n = min n (2 ^ 63 - 1)

pub in_bits-near : (n : ℕ) → in_bits n < 2 ^ 63
in_bits-near n = omega arith

-- where a cut starts, in ticks
abbrev pub start_in : Fraction → TimeCut → ℕ
start_in tb c = in_bits (ticks_at tb c.start)

-- where it ends, if it does: its length behind its start
abbrev pub stop_in : Fraction → TimeCut → Option ℕ
stop_in tb c = option_map (λ us. start_in tb c + ticks_at tb us) c.length

abbrev pub range_in : Fraction → TimeCut → Range
range_in tb c = record { start = start_in tb c; stop = stop_in tb c; near = in_bits-near (ticks_at tb c.start) }

-- what lies within a range, with its start taken from all times: pictures that start there, and sound at the sample frame
abbrev pub from_range : StreamHead → Range → Flow → Flow
from_range (Audio tb rate bits channels codec) range s = shifted (Some range.start) (sound_trimmed range s)
from_range (Video tb format width height sar_num sar_den) range s = shifted (Some range.start) (trimmed range s)

-- nothing is cut
abbrev pub is_uncut : TimeCut → Bool
is_uncut c = (c.start == 0) && not (is_some c.length)

-- the length, or the number of frames, is given as 0
abbrev pub is_empty : Option ℕ → Bool
is_empty None = false
is_empty (Some zero) = true
is_empty (Some (suc us)) = false

-- with a length of 0, or without a frame, the output ends before anything comes
abbrev pub starts_over : OutputCut → After
starts_over c = cond (is_empty c.time.length || is_empty c.frames) Whole More

-- the same of a cut whose length isn't 0; without a start and a length the stream is as it came
abbrev pub kept : StreamHead → TimeCut → Flow → Flow
kept h c s = cond (is_uncut c) s (from_range h (range_in (base_of_head h) c) s)

-- A stream of this head, cut: what lies from the start on to below the end, with the start taken from all times; whole at the
-- first picture at or past the end, or with the first frame of sound that ends at or past it, and of length 0 at once.
abbrev pub cut : StreamHead → TimeCut → Flow → Flow
cut h c s = cond (is_empty c.length) (whole_stream []) (kept h c s)

-- the first n frames; whole where there are as many
abbrev pub first_frames : ℕ → Flow → Flow
first_frames n s = record { items = take n s.items; mark = cond (nat_le n (length s.items)) whole s.mark }

-- of a number that is given
abbrev pub counted : Option ℕ → Flow → Flow
counted None s = s
counted (Some n) s = first_frames n s

-- A stream of an output, cut in time, and then by number: of what the cut in time leaves the first so many frames, and whole with the
-- last of them; where it leaves fewer, as it leaves them.
abbrev pub output_cut : StreamHead → OutputCut → Flow → Flow
output_cut h c s = counted c.frames (cut h c.time s)

-- the stream of each port by its own head and cut; none at another port
abbrev pub cut_at : List StreamHead → List OutputCut → ℕ → Flow → Flow
cut_at [] cs q s = nothing
cut_at (h ∷ hs) [] q s = nothing
cut_at (h ∷ hs) (c ∷ cs) zero s = output_cut h c s
cut_at (h ∷ hs) (c ∷ cs) (suc q) s = cut_at hs cs q s

-- a function of streams, with a cut behind each output
abbrev pub cut_each : List StreamHead → List OutputCut → (Ports → Ports) → Ports → Ports
cut_each hs cs f ss q = cut_at hs cs q (f ss q)
