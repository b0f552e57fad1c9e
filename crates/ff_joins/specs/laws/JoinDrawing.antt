-- What comes next of streams side by side.
use Rattle.std.specs.Prelude.{true, ◌≡◌, ℕ, ℤ, pos, ◌+ℤ◌, ◌+◌, ◌*◌, ◌<◌, ◌≤◌, List, length, take}
use Rattle.ff_frame.specs.Frame.{audio_frame}
use Rattle.ff_stream.specs.declared.item.Item.{Item}
use Rattle.ff_stream.specs.declared.item.Item.TheVariants.{Audio}
use Rattle.ff_stream.specs.Ports.{nothing}
use Rattle.ff_stream.specs.Stream.{Stream, still_open}
use Rattle.ff_filter.specs.declared.after.After.{After}
use Rattle.ff_filter.specs.declared.after.After.TheVariants.{More, Whole, Broke}
use Rattle.ff_filter.specs.Joins.{Ports, Flow, one, before}
use Rattle.ff_filter.specs.Made.{behind}
use Rattle.ff_filter.specs.Views.{closes}
use Rattle.ff_joins.specs.declared.join.Join.{Join}
use Rattle.ff_joins.specs.Joined.{Row, rows_to, joined_rows}
use Rattle.ff_joins.specs.JoinOptions.{rate_of, bits_of, channels_of}
use Rattle.ff_joins.specs.laws.JoinSeen.{join_seen}
use Rattle.ff_joins.specs.laws.Lots.{Lot, lots, last_port, rows_kept, all_come, start_after, frame_on, skipped}

-- the rows that wait
abbrev pub kept_rows : (ℕ → Lot) → ℕ → Stream Row
kept_rows ls p = record { items = rows_kept (ls p); mark = still_open }

-- the frame of the first so many sample frames that wait
abbrev pub due : Join → ℕ → Item
due m count = frame_on m.head m.given (start_after m.first nothing) 0 (take count (rows_to (last_port m.inlets.items) (kept_rows (lots m.inlets.items))))

-- when the next frame starts
abbrev pub frame_start : Join → ℤ
frame_start m = start_after m.first nothing +ℤ pos (1024 * m.given)

-- the frame of these samples that starts then
abbrev pub frame_with : Join → List ℤ → Item
frame_with m xs = Audio (audio_frame (frame_start m) (rate_of m.head) (bits_of m.head) (channels_of m.head) xs)

-- what comes, without the limits, where so many frames were given
abbrev pub made_on : Join → ℕ → (ℕ → Lot) → Ports → Flow
made_on m given ls ext = joined_rows (last_port m.inlets.items) (frame_on m.head given (start_after m.first (ext 0))) (all_come ls ext)

-- next comes the frame of so many sample frames, and behind it the output stands so
abbrev pub IsNextFrame : Join → ℕ → After → Type 0
IsNextFrame m count after = (ext : Ports) → made_on m m.given (lots m.inlets.items) ext
    ≡ before (due m count) (behind after (made_on m (m.given + 1) (λ p. skipped count (lots m.inlets.items p)) ext))

-- each input has at least so many sample frames
abbrev pub HaveAll : Join → ℕ → Type 0
HaveAll m count = (p : ℕ) → p < length m.inlets.items → count ≤ (lots m.inlets.items p).count

-- how the output stands behind the fewest sample frames that wait on one of the inputs
abbrev pub StandsSo : Join → ℕ → After → Type 0
StandsSo m count More =
    ((p : ℕ) × (p < length m.inlets.items) × ((lots m.inlets.items p).count ≡ count) × ((lots m.inlets.items p).after ≡ More))
    × ((p : ℕ) → p < length m.inlets.items → (lots m.inlets.items p).count ≡ count → (lots m.inlets.items p).after ≡ Whole → ⊥)
StandsSo m count Whole = (p : ℕ) × (p < length m.inlets.items) × ((lots m.inlets.items p).count ≡ count) × ((lots m.inlets.items p).after ≡ Whole)
StandsSo m count Broke =
    ((p : ℕ) → p < length m.inlets.items → (lots m.inlets.items p).count ≡ count → (lots m.inlets.items p).after ≡ Whole → ⊥)
    × ((p : ℕ) → p < length m.inlets.items → (lots m.inlets.items p).count ≡ count → (lots m.inlets.items p).after ≡ More → ⊥)

-- only the closing item comes
abbrev pub IsLast : Join → Item → Type 0
IsLast m x = (closes x ≡ true) × ((ext : Ports) → (join_seen m).rest ext 0 ≡ one x)
