-- How the machine of streams side by side is seen.
use Rattle.std.specs.Prelude.{ℕ, zero, suc, ◌+◌, ◌-◌, ◌*◌, Bool, true, false, ℤ, Option, Some, None, List, [], ◌∷◌, ◌++◌, take, drop, length}
use Rattle.ff_frame.specs.declared.head.StreamHead.{StreamHead}
use Rattle.ff_stream.specs.declared.item.Item.{Item}
use Rattle.ff_stream.specs.declared.item.Lane.{Lane}
use Rattle.ff_stream.specs.declared.item.Lane.TheVariants.{Frames}
use Rattle.ff_stream.specs.Stream.{whole, broken, Stream}
use Rattle.ff_stream.specs.Within.{passes_limits}
use Rattle.ff_filter.specs.declared.after.After.{After}
use Rattle.ff_filter.specs.declared.after.After.TheVariants.{More, Whole, Broke}
use Rattle.ff_filter.specs.Joins.{Flow, Ports}
use Rattle.ff_filter.specs.laws.Limits.{limited}
use Rattle.ff_filter.specs.Made.{left, is_over}
use Rattle.ff_filter.specs.Views.{View}
use Rattle.ff_joins.specs.declared.sound_inlet.SoundInlet.{SoundInlet}
use Rattle.ff_joins.specs.Joined.{Row, split_rows, row_stream, joined_rows, first_start, sound_frame}
use Rattle.ff_joins.specs.JoinOptions.{rate_of, bits_of, channels_of}

-- what waits on one input: so many sample frames, and how the input stands behind them
pub record Lot : Type 0 where
  pub channels : ℕ
  pub count : ℕ
  pub samples : List ℤ
  pub after : After

abbrev pub lot_of : SoundInlet → Lot
lot_of i = record { channels = channels_of i.head; count = i.count; samples = i.samples; after = i.after }

-- on an input that isn't there nothing waits
abbrev pub lots : List SoundInlet → ℕ → Lot
lots [] p = record { channels = 0; count = 0; samples = []; after = More }
lots (i ∷ is) zero = lot_of i
lots (i ∷ is) (suc p) = lots is p

abbrev pub rows_kept : Lot → List Row
rows_kept l = split_rows l.channels l.count l.samples

-- the rows that wait, and those that come behind them
abbrev pub row_then : List Row → After → Stream Row → Stream Row
row_then rows More s = record { items = rows ++ s.items; mark = s.mark }
row_then rows Whole s = record { items = rows; mark = whole }
row_then rows Broke s = record { items = rows; mark = broken }

abbrev pub comes : Lot → Flow → Stream Row
comes l t = row_then (rows_kept l) l.after (row_stream l.channels t)

abbrev pub all_come : (ℕ → Lot) → Ports → ℕ → Stream Row
all_come ls ext p = comes (ls p) (ext p)

-- the start of the first item, which came or is still to come
abbrev pub start_after : Option ℤ → Flow → ℤ
start_after None t = first_start t.items
start_after (Some z) t = z

-- the frame of this number, where so many were given before
abbrev pub frame_on : StreamHead → ℕ → ℤ → ℕ → List Row → Item
frame_on head given first i rows = sound_frame first (rate_of head) (bits_of head) (channels_of head) (given + i) rows

-- what still comes of inputs 0 to n, within the limits
abbrev pub still_joined : StreamHead → ℕ → Option ℤ → ℕ → (ℕ → Lot) → Ports → Flow
still_joined head n first given ls ext = limited (passes_limits (Frames head)) given (joined_rows n (frame_on head given (start_after first (ext 0))) (all_come ls ext))

-- the machine whose fields are these: its lanes, its head, the number of its last input, the start of the first item, how many
-- frames it gave, what waits on its inputs, and its output
abbrev pub lots_view : List Lane → StreamHead → ℕ → Option ℤ → ℕ → (ℕ → Lot) → Bool → Bool → After → View
lots_view lanes head n first given ls ended stopped after = record {
  ins = lanes;
  outs = Frames head ∷ [];
  rest = λ ext q. left [] ended after (still_joined head n first given ls ext);
  shut = λ p. is_over (ls p).after;
  ended = λ q. ended;
  stopped = λ q. stopped;
}

abbrev pub lane_of : SoundInlet → Lane
lane_of i = Frames i.head

-- the number of the last input
abbrev pub last_port : List SoundInlet → ℕ
last_port is = length is - 1

-- before an item came on the first input, no row of it waits
abbrev pub no_rows : List Row → Bool
no_rows [] = true
no_rows (r ∷ rs) = false

abbrev pub has_started : Option ℤ → Lot → Bool
has_started None l = no_rows (rows_kept l)
has_started (Some z) l = true

-- the samples at place r of input p
abbrev pub cell : Lot → ℕ → List ℤ
cell l r = take l.channels (drop (r * l.channels) l.samples)

-- the samples at place r of the first inputs
abbrev pub row_to : (ℕ → Lot) → ℕ → ℕ → List ℤ
row_to ls zero r = []
row_to ls (suc p) r = row_to ls p r ++ cell (ls p) r

-- the same at the first places
abbrev pub cells_to : (ℕ → Lot) → ℕ → ℕ → List ℤ
cells_to ls n zero = []
cells_to ls n (suc k) = cells_to ls n k ++ row_to ls n k

-- what waits, but for the first k sample frames
abbrev pub skipped : ℕ → Lot → Lot
skipped k l = record { channels = l.channels; count = l.count - k; samples = drop (k * l.channels) l.samples; after = l.after }

-- the start of the first item of the first input, where one that starts then comes on input p
abbrev pub has_started_by : Option ℤ → ℕ → ℤ → Option ℤ
has_started_by (Some y) p z = Some y
has_started_by None zero z = Some z
has_started_by None (suc p) z = None
