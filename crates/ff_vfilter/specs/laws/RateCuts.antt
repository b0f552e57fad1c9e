-- Which numbers are shown of what was fed, and whether one of them passes a limit.
use Rattle.std.specs.Prelude.{ℕ, ◌+◌, ◌-◌, ◌*◌, ◌^◌, max, nat_lt, Bool, true, false, ◌||◌, ◌&&◌, Option, None, Some, List, [], ◌∷◌}
use Rattle.ff_frame.specs.declared.head.StreamHead.{StreamHead}
use Rattle.ff_frame.specs.declared.video.VFrame.{VFrame}
use Rattle.ff_frame.specs.Heads.{base_of_head}
use Rattle.ff_stream.specs.declared.item.Item.{Item}
use Rattle.ff_stream.specs.declared.item.Item.TheVariants.{Audio, Video, Packet, Trailer, End, Broken}
use Rattle.ff_vfilter.specs.declared.scale.Scale.{Scale}
use Rattle.ff_vfilter.specs.declared.showing.Ahead.{Ahead}
use Rattle.ff_vfilter.specs.declared.showing.Ahead.TheVariants as ahead
use Rattle.ff_vfilter.specs.declared.showing.Showing.{Showing}
use Rattle.ff_vfilter.specs.declared.span.Span.{Span}
use Rattle.ff_vfilter.specs.Rates.{number_of}

-- the numbers that are shown once a picture of this number comes; from that on where it is the first
abbrev pub span_to : Option Span → ℕ → Span
span_to None q = record { first = q; next = q }
span_to (Some s) q = record { first = s.first; next = max s.next q }

-- the same of an item: pictures alone count
abbrev pub span_by : Scale → Option Span → Item → Option Span
span_by s o (Audio f) = o
span_by s o (Video f) = Some (span_to o (number_of s f))
span_by s o (Packet p) = o
span_by s o (Trailer t) = o
span_by s o End = o
span_by s o Broken = o

abbrev pub span_of : Scale → Option Span → List Item → Option Span
span_of s o [] = o
span_of s o (x ∷ xs) = span_of s (span_by s o x) xs

-- the picture that is shown, from this number on
abbrev pub span_at : Option VFrame → ℕ → Option Span
span_at None n = None
span_at (Some f) n = Some (record { first = n; next = n })

-- and the picture that comes next
abbrev pub span_then : Scale → Option Span → Ahead → Option Span
span_then s o ahead.Unknown = o
span_then s o (ahead.Picture f) = Some (span_to o (number_of s f))
span_then s o ahead.Whole = o
span_then s o ahead.Lost = o

abbrev pub span_ahead : Showing → Option Span
span_ahead m = span_then m.scale (span_at m.picture m.number) m.ahead

-- it is known how the input ends
abbrev pub is_end : Ahead → Bool
is_end ahead.Unknown = false
is_end (ahead.Picture f) = false
is_end ahead.Whole = true
is_end ahead.Lost = true

-- the picture of this number passes a limit, where so many were given before it
abbrev pub is_late : StreamHead → ℕ → ℕ → Bool
is_late given before number = nat_lt (2 ^ 40) (before + 1) || nat_lt (1000000000 * (base_of_head given).den) ((number + 1) * (base_of_head given).num)

-- one of these numbers does: the last of them
abbrev pub is_cut : StreamHead → ℕ → Option Span → Bool
is_cut given before None = false
is_cut given before (Some s) = nat_lt s.first s.next && is_late given (before + (s.next - s.first - 1)) (s.next - 1)
