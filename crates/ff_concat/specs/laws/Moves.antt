-- What the steps of an output do to what it still makes.
use Rattle.std.specs.Prelude.{◌≡◌, ◌≢◌, ℕ, false, cond, length, List, ◌++◌, ◌∷◌, []}
use Rattle.ff_stream.specs.declared.item.Item.{Item}
use Rattle.ff_stream.specs.declared.item.Lane.TheVariants.{Frames}
use Rattle.ff_stream.specs.Ports.{nothing}
use Rattle.ff_stream.specs.Within.{passes_limits}
use Rattle.ff_filter.specs.Joins.{Flow, Ports, before, silence}
use Rattle.ff_filter.specs.laws.Limits.{limited}
use Rattle.ff_filter.specs.Views.{closes}
use Rattle.ff_concat.specs.declared.reach.Reach.{Reach}
use Rattle.ff_concat.specs.declared.track.Track.{Track}
use Rattle.ff_concat.specs.laws.Tracks.{still_gives}
use Rattle.ff_concat.specs.laws.Queues.{queue_at}

-- the same is given as before, and it is wanted as before
pub record GoesOn (old new : Track) (tick_list : List ℕ) (q : ℕ) (rs : List Reach) : Type 0 where
  pub head : new.head ≡ old.head
  pub backlogs : length new.backlogs.items ≡ length old.backlogs.items
  pub gives : (ext : Ports) → still_gives tick_list q new rs ext ≡ still_gives tick_list q old rs ext
  pub ended : new.ended ≡ old.ended
  pub stopped : new.stopped ≡ old.stopped

-- it gave an item, and then gives the others
pub record Gave (old new : Track) (tick_list : List ℕ) (q : ℕ) (rs : List Reach) (x : Item) : Type 0 where
  pub head : new.head ≡ old.head
  pub backlogs : length new.backlogs.items ≡ length old.backlogs.items
  pub open_before : old.ended ≡ false
  pub gives : (ext : Ports) → still_gives tick_list q old rs ext ≡ before x (still_gives tick_list q new rs ext)
  pub ended : new.ended ≡ closes x
  pub stopped : new.stopped ≡ old.stopped

-- all that is due was given
pub record Waits (old new : Track) (tick_list : List ℕ) (q : ℕ) (rs : List Reach) : Type 0 where
  pub goes_on : GoesOn old new tick_list q rs
  pub nothing_left : still_gives tick_list q old rs silence ≡ nothing

-- An item was given, or the closing one in its place where it passes a limit: t stands behind it.
pub record Told (old new : Track) (x y : Item) : Type 0 where
  pub head : new.head ≡ old.head
  pub tick : new.tick ≡ old.tick
  pub backlogs : new.backlogs ≡ old.backlogs
  pub current : new.current ≡ old.current
  pub begin : new.begin ≡ old.begin
  pub end : new.end ≡ old.end
  pub ended : new.ended ≡ closes y
  pub stopped : new.stopped ≡ old.stopped
  pub made : (t : Flow) → limited (passes_limits (Frames old.head)) old.before (before x t)
      ≡ before y (cond new.ended nothing (limited (passes_limits (Frames old.head)) new.before t))

-- what the reaches of the inputs don't change, and what is kept: all but what waits
pub record IsAlike (old new : Track) : Type 0 where
  pub head : new.head ≡ old.head
  pub tick : new.tick ≡ old.tick
  pub before : new.before ≡ old.before
  pub current : new.current ≡ old.current
  pub begin : new.begin ≡ old.begin
  pub end : new.end ≡ old.end
  pub ended : new.ended ≡ old.ended
  pub stopped : new.stopped ≡ old.stopped
  pub backlogs : length new.backlogs.items ≡ length old.backlogs.items

-- an item waits behind the others of segment k
pub record Kept (old new : Track) (k : ℕ) (x : Item) : Type 0 where
  pub alike : IsAlike old new
  pub here : queue_at new.backlogs.items k ≡ queue_at old.backlogs.items k ++ x ∷ []
  pub others : (j : ℕ) → j ≢ k → queue_at new.backlogs.items j ≡ queue_at old.backlogs.items j

-- nothing changed that can be seen
pub record IsUnchanged (old new : Track) : Type 0 where
  pub alike : IsAlike old new
  pub queues : (j : ℕ) → queue_at new.backlogs.items j ≡ queue_at old.backlogs.items j

-- an item was taken out of the current segment
pub record Taken (old new : Track) (x : Item) : Type 0 where
  pub alike : IsAlike old new
  pub goes_on : closes x ≡ false
  pub here : queue_at old.backlogs.items old.current ≡ x ∷ queue_at new.backlogs.items old.current
  pub others : (j : ℕ) → j ≢ old.current → queue_at new.backlogs.items j ≡ queue_at old.backlogs.items j
