-- A cut step by step, as its rule is said.
use Rattle.std.specs.Prelude.{◌<◌, ◌^◌, None, Some, option_map}
use Rattle.std.proofs.Common.{arith}
use Rattle.ff_time.specs.Fraction.{Fraction}
use Rattle.ff_time.specs.declared.cut.TimeCut.{TimeCut}
use Rattle.ff_frame.specs.declared.head.StreamHead.{StreamHead}
use Rattle.ff_frame.specs.declared.head.StreamHead.TheVariants.{Audio, Video}
use Rattle.ff_frame.specs.Heads.{base_of_head}
use Rattle.ff_filter.specs.declared.range.Range.{Range}
use Rattle.ff_filter.specs.Joins.{Flow}
use Rattle.ff_filter.specs.Shifts.{shifted}
use Rattle.ff_vfilter.specs.Trims.{trimmed}
use Rattle.ff_afilter.specs.Trims.{sound_trimmed}
use Rattle.ff_trim.specs.Cuts.{ticks_at, in_bits-near, start_in}

-- a trim of a stream of this head
abbrev pub trim_of : StreamHead → Range → Flow → Flow
trim_of (Audio tb rate bits channels codec) range s = sound_trimmed range s
trim_of (Video tb format width height sar_num sar_den) range s = trimmed range s

-- from the start of a cut on
abbrev pub from_start_of : Fraction → TimeCut → Range
from_start_of tb c = record { start = start_in tb c; stop = None; near = in_bits-near (ticks_at tb c.start) }

pub none_near : 0 < 2 ^ 63
none_near = omega arith

-- from 0 to below the length of a cut
abbrev pub to_length_of : Fraction → TimeCut → Range
to_length_of tb c = record { start = 0; stop = option_map (λ us. ticks_at tb us) c.length; near = none_near }

-- What lies from the start on is kept, the start is taken from all times, and then what lies below the length is kept.
abbrev pub by_rule : StreamHead → TimeCut → Flow → Flow
by_rule h c s = trim_of h (to_length_of (base_of_head h) c) (shifted (Some (start_in (base_of_head h) c)) (trim_of h (from_start_of (base_of_head h) c) s))
