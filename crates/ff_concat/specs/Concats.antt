-- Segments of several streams, one after another.
use Rattle.std.specs.Prelude.{ℕ, zero, suc, ◌+◌, ◌*◌, ◌==◌, Bool, true, false, ◌&&◌, cond, min, ℤ, pos, List, [], ◌∷◌, length, map, slice_index}
use Rattle.std.specs.Int.{div_ceil}
use Rattle.ff_time.specs.Fraction.{Fraction}
use Rattle.ff_frame.specs.declared.head.StreamHead.{StreamHead}
use Rattle.ff_frame.specs.Heads.{base_of_head}
use Rattle.ff_stream.specs.declared.item.Item.{Item}
use Rattle.ff_stream.specs.declared.item.Item.TheVariants.{Audio, Video, Packet, Trailer, End, Broken}
use Rattle.ff_stream.specs.Stream.{Mark, still_open, whole, broken, map_stream}
use Rattle.ff_stream.specs.Ports.{nothing}
use Rattle.ff_stream.specs.Times.{ticks}
use Rattle.ff_filter.specs.Joins.{Flow, Ports}
use Rattle.ff_filter.specs.Options.{is_video}
use Rattle.ff_concat.specs.Following.{followed, led_by}
use Rattle.ff_concat.specs.Silences.{filled}
use Rattle.ff_concat.specs.Tails.{Tail, tail_of, together, latest}

-- A time so many ticks later. It stays at the last time of 64 bits, past which no item within the limits ends.
abbrev pub time_later : ℕ → ℤ → ℤ
time_later n t = pos (min (ticks t + n) 9223372036854775807)

abbrev pub moved : ℕ → Item → Item
moved n (Audio f) = Audio (record f { pts = time_later n f.pts })
moved n (Video f) = Video (record f { pts = time_later n f.pts })
moved n (Packet p) = Packet p
moved n (Trailer t) = Trailer t
moved n End = End
moved n Broken = Broken

-- an item so many ticks later; where there are none, as it is
abbrev pub later : ℕ → Item → Item
later n x = cond (n == 0) x (moved n x)

-- The least whole number of ticks at or after a time, told in a unit of which a tick has so many. It too stays at the last
-- time of 64 bits.
abbrev pub begin_in : ℕ → ℕ → ℕ
begin_in tick time = min (div_ceil time tick) 9223372036854775807

-- one output: the head of its streams, how many units a tick of it has, and its number among the outputs
pub record Output : Type 0 where
  pub head : StreamHead
  pub tick : ℕ
  pub number : ℕ

-- On an output of segments, nothing of which is given, more can't come: `own` stands so far, `segment` says how the streams of
-- that segment stand, and `behind` that of those behind nothing can come.
abbrev pub is_lost_at : List Item → Mark → Mark → Bool → Bool
is_lost_at (x ∷ xs) own segment behind = false
is_lost_at [] still_open segment behind = false
is_lost_at [] broken segment behind = true
is_lost_at [] whole broken behind = true
is_lost_at [] whole still_open behind = behind
is_lost_at [] whole whole behind = behind

-- of n segments of w streams from segment k on no item can come: a break stands before the first
abbrev pub is_lost : ℕ → ℕ → ℕ → (ℕ → Flow) → (ℕ → Tail) → Bool
is_lost w zero k own tails = false
is_lost w (suc n) k own tails = is_lost_at (own k).items (own k).mark (together w (k * w) tails) (is_lost w n (k + 1) own tails)

-- What comes behind the items of a segment whose streams stand so: where all are whole, the next segment; else nothing,
-- and a break where no more can come.
abbrev pub let_through : Mark → Bool → Flow → Flow
let_through whole lost next = next
let_through broken lost next = record { items = []; mark = broken }
let_through still_open true next = record { items = []; mark = broken }
let_through still_open false next = nothing

-- What an output gives of n segments from segment k on. `own` has its streams by segment, and `tails` says of all streams how
-- far they have come: that of number q in segment k has port k * w + q, where w is how many streams a segment has. Segment k
-- begins at `time`, in a unit of which each stream's tick has as many as `tick_list` says, and `end` is the end of what was given.
-- First come zeros up to where the segment begins, in whole ticks, then its items, later by as much. Of audio, more zeros may
-- come as long as a stream of the segment is open; of video, only what is there of the segments behind.
abbrev pub in_order : List ℕ → Output → ℕ → ℕ → ℕ → ℕ → (ℕ → Flow) → (ℕ → Tail) → Flow
in_order tick_list out zero k time end own tails = record { items = []; mark = whole }
in_order tick_list out (suc n) k time end own tails =
    led_by (filled out.head end (begin_in out.tick time))
    (followed (map_stream (later (begin_in out.tick time)) (own k))
    (let_through (together (length tick_list) (k * length tick_list) tails) (is_video out.head && is_lost (length tick_list) n (k + 1) own tails)
    (in_order tick_list out n (k + 1) (time + latest tick_list (length tick_list) (k * length tick_list) tails)
    (begin_in out.tick time + (tails (k * length tick_list + out.number)).end) own tails)))

abbrev pub product : List Fraction → ℕ
product [] = 1
product (b ∷ bs) = b.den * product bs

-- How many units a tick of each base has, where the unit is a second divided by s and by the product of all denominators: the
-- numerator times the denominators of the others.
abbrev pub ticks_by : ℕ → List Fraction → List ℕ
ticks_by s [] = []
ticks_by s (b ∷ bs) = b.num * (s * product bs) ∷ ticks_by (s * b.den) bs

abbrev pub ticks_of : List StreamHead → List ℕ
ticks_of heads = ticks_by 1 (map base_of_head heads)

-- The output of number q: n segments, each of as many streams as there are heads, one after another.
abbrev pub concatenated : List StreamHead → StreamHead → ℕ → ℕ → Ports → Flow
concatenated heads head q n ss =
    in_order (ticks_of heads) (record { head = head; tick = slice_index (ticks_of heads) q; number = q }) n 0 0 0 (λ k. ss (k * length heads + q))
    (λ p. tail_of (ss p))
