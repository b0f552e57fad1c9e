-- What each move of one stream does to it.
use Rattle.std.specs.Prelude.{◌≡◌, ◌≢◌, ℕ, length, true, false, List, ◌∷◌}
use Rattle.ff_stream.specs.declared.item.Item.{Item}
use Rattle.ff_filter.specs.Joins.{Flow, before}
use Rattle.ff_filter.specs.Made.{is_over}
use Rattle.ff_filter.specs.Shifts.{start_ticks}
use Rattle.ff_filter.specs.Views.{closes}
use Rattle.ff_node_sync.specs.Lines.{Line, line_at, came, end_with, mark_with}

-- An item was taken in: however the stream goes on, it ends and stands as with the item before that; and where the output is
-- wanted, the item waits behind the others.
pub record Takes (old new : Line) (x : Item) : Type 0 where
  pub base : new.base ≡ old.base
  pub ended : new.ended ≡ old.ended
  pub stopped : new.stopped ≡ old.stopped
  pub end : (t : Flow) → end_with new t ≡ end_with old (before x t)
  pub mark : (t : Flow) → mark_with new t ≡ mark_with old (before x t)
  pub came : old.ended ≡ false → old.stopped ≡ false → (t : Flow) → came new t ≡ came old (before x t)
  pub shut : is_over new.after ≡ closes x

-- the first of these items starts then
abbrev pub IsStart : List Item → ℕ → Type 0
IsStart xs t = (x : Item) × (ys : List Item) × (xs ≡ x ∷ ys) × (t ≡ start_ticks x)

-- the first item that waited was taken out
pub record IsTaken (old new : Line) (x : Item) : Type 0 where
  pub base : new.base ≡ old.base
  pub waits : old.waits ≡ x ∷ new.waits
  pub goes_on : closes x ≡ false
  pub after : new.after ≡ old.after
  pub reach : new.reach ≡ old.reach
  pub ended : new.ended ≡ old.ended
  pub stopped : new.stopped ≡ old.stopped

-- the output was closed
pub record IsEnded (old new : Line) : Type 0 where
  pub base : new.base ≡ old.base
  pub after : new.after ≡ old.after
  pub reach : new.reach ≡ old.reach
  pub ended : new.ended ≡ true
  pub stopped : new.stopped ≡ old.stopped

-- the output isn't wanted any more
pub record IsStopped (old new : Line) : Type 0 where
  pub base : new.base ≡ old.base
  pub after : new.after ≡ old.after
  pub reach : new.reach ≡ old.reach
  pub ended : new.ended ≡ old.ended
  pub stopped : new.stopped ≡ true

-- output p was closed, and all else stayed as it was
pub record IsClosedAt (old new : List Line) (p : ℕ) : Type 0 where
  pub long : length new ≡ length old
  pub here : IsEnded (line_at old p) (line_at new p)
  pub others : (q : ℕ) → q ≢ p → line_at new q ≡ line_at old q
