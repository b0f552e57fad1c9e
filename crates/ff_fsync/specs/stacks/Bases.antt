-- The common base of a stack's inputs, and streams with their times in its units.
use Rattle.std.specs.Prelude.{◌≡◌, ℕ, zero, suc, ◌*◌, ◌-◌, min, cond, nat_eq, Bool, ℤ, pos, ◌+ℤ◌, Option, None, Some, List, [], ◌∷◌, map, is_some}
use Rattle.ff_time.specs.Fraction.{Fraction}
use Rattle.ff_time.specs.Common.{units_of}
use Rattle.ff_frame.specs.Heads.{base_of_head}
use Rattle.ff_frame.specs.declared.head.StreamHead.{StreamHead}
use Rattle.ff_frame.specs.declared.head.StreamHead.TheVariants.{Audio as AudioHead, Video as VideoHead}
use Rattle.ff_frame.specs.declared.video.VFrame.{VFrame}
use Rattle.ff_stream.specs.declared.item.Item.{Item}
use Rattle.ff_stream.specs.declared.item.Item.TheVariants.{Audio, Video, Packet, Trailer, End, Broken}
use Rattle.ff_stream.specs.Times.{ticks, start_of, end_of, with_base}
use Rattle.ff_filter.specs.Joins.{Flow, Ports}
use Rattle.ff_filter.specs.Views.{View}
use Rattle.ff_fsync.specs.stacks.CommonBases.{common_of}

-- ---- bases

abbrev pub bases_of : List StreamHead → List Fraction
bases_of heads = map base_of_head heads

-- the common base, or this one where there is none
abbrev pub base_or : Fraction → Option Fraction → Fraction
base_or base None = base
base_or base (Some common) = common

-- the head with its times in units of the common base of these
abbrev pub in_common : List StreamHead → StreamHead → StreamHead
in_common heads h = with_base (base_or (base_of_head h) (common_of (bases_of heads))) h

abbrev pub has_common : List StreamHead → Bool
has_common heads = is_some (common_of (bases_of heads))

-- ---- times

-- When a frame starts and ends, in units so many of which are one of its own. A time that 63 bits don't tell counts as the
-- last that they do; a stream within its limits has none.
abbrev pub start_in : ℕ → VFrame → ℕ
start_in units f = min (ticks f.pts * units) 9223372036854775806

abbrev pub end_in : ℕ → VFrame → ℕ
end_in units f = min (ticks (f.pts +ℤ f.duration) * units) 9223372036854775807

abbrev pub frame_in : ℕ → VFrame → VFrame
frame_in units f = cond (nat_eq units 1) f (record f { pts = pos (start_in units f); duration = pos (end_in units f - start_in units f) })

abbrev pub item_in : ℕ → Item → Item
item_in units (Audio f) = Audio f
item_in units (Video f) = Video (frame_in units f)
item_in units (Packet p) = Packet p
item_in units (Trailer t) = Trailer t
item_in units End = End
item_in units Broken = Broken

-- a stream with the times of its frames in such units
abbrev pub told_in : ℕ → Flow → Flow
told_in units s = record { items = map (item_in units) s.items; mark = s.mark }

-- an item starts and ends in such units exactly where it did
pub record IsExact (n : ℕ) (x : Item) : Type 0 where
  pub starts : start_of (item_in n x) ≡ pos (ticks (start_of x) * n)
  pub ends : end_of (item_in n x) ≡ pos (ticks (end_of x) * n)

-- the units of each input, one where there is no such input
abbrev pub units_at : List ℕ → ℕ → ℕ
units_at [] p = 1
units_at (n ∷ ns) zero = n
units_at (n ∷ ns) (suc p) = units_at ns p

abbrev pub all_told : List ℕ → Ports → Ports
all_told units ss p = told_in (units_at units p) (ss p)

-- of inputs with these heads, how many units of the output's base are in one of each
abbrev pub units_on : List StreamHead → StreamHead → List ℕ
units_on heads out = map (λ h. units_of (base_of_head h) (base_of_head out)) heads

-- a filter whose inputs come in units of their own
abbrev pub told_view : List ℕ → View → View
told_view units v = record v { rest = λ ext q. v.rest (all_told units ext) q }

-- the times of a frame, and an item with such times
abbrev pub times_of : Item → ℤ × ℤ
times_of (Audio f) = (pos 0, pos 0)
times_of (Video f) = (f.pts, f.duration)
times_of (Packet p) = (pos 0, pos 0)
times_of (Trailer t) = (pos 0, pos 0)
times_of End = (pos 0, pos 0)
times_of Broken = (pos 0, pos 0)

abbrev pub item_at : ℤ × ℤ → Item → Item
item_at times (Audio f) = Audio f
item_at times (Video f) = Video (record f { pts = times.0; duration = times.1 })
item_at times (Packet p) = Packet p
item_at times (Trailer t) = Trailer t
item_at times End = End
item_at times Broken = Broken
