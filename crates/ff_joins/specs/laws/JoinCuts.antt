-- Which of the next frames of streams side by side passes a limit.
use Rattle.std.specs.Prelude.{ℕ, zero, suc, ◌+◌, ◌*◌, ◌/◌, ◌^◌, ◌+ℤ◌, pos, ◌||◌, nat_lt, Bool, List, length}
use Rattle.ff_frame.specs.Heads.{base_of_head}
use Rattle.ff_stream.specs.declared.item.Item.{Item}
use Rattle.ff_stream.specs.Ports.{nothing}
use Rattle.ff_stream.specs.Times.{ticks}
use Rattle.ff_joins.specs.declared.join.Join.{Join}
use Rattle.ff_joins.specs.Joined.{rows_to, frames_to}
use Rattle.ff_joins.specs.JoinOptions.{channels_of}
use Rattle.ff_joins.specs.laws.JoinDrawing.{kept_rows}
use Rattle.ff_joins.specs.laws.Lots.{Lot, lots, last_port, start_after, frame_on}

-- the channels of the first inputs
abbrev pub width_to : (ℕ → Lot) → ℕ → ℕ
width_to ls zero = 0
width_to ls (suc p) = width_to ls p + (ls p).channels

-- how many ticks a frame of 1,024 sample frames is long
abbrev pub frame_length : Join → ℕ
frame_length m = (1024 * width_to (lots m.inlets.items) (length m.inlets.items)) / channels_of m.head

-- when the frame of this number ends, in ticks from 0
abbrev pub frame_end : Join → ℕ → ℕ
frame_end m t = ticks (start_after m.first nothing +ℤ pos (1024 * t) +ℤ pos (frame_length m))

-- the frame of this number passes a limit
abbrev pub is_late : Join → ℕ → Bool
is_late m t = nat_lt (2 ^ 40) (t + 1) || nat_lt (1000000000 * (base_of_head m.head).den) (frame_end m t * (base_of_head m.head).num)

-- the next so many frames
abbrev pub next_frames : Join → ℕ → List Item
next_frames m k = frames_to (frame_on m.head m.given (start_after m.first nothing)) (rows_to (last_port m.inlets.items) (kept_rows (lots m.inlets.items))) k
