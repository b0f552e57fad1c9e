-- The machine to which nothing came.
use Rattle.std.specs.Prelude.{◌≡◌, ℕ, ◌<◌, ◌≤◌, ◌^◌, false, [], List, length}
use Rattle.ff_frame.specs.declared.head.StreamHead.{StreamHead}
use Rattle.ff_filter.specs.declared.after.After.TheVariants.{More}
use Rattle.ff_concat.specs.declared.backlog.Backlog.{Backlog}
use Rattle.ff_concat.specs.declared.reach.Reach.{Reach}
use Rattle.ff_concat.specs.declared.track.Track.{Track}
use Rattle.ff_concat.specs.laws.Tracks.{end_at, after_at}
use Rattle.ff_concat.specs.laws.Queues.{queue_at, least_at}

-- so many segments of which nothing waits
pub record AreEmpty (n : ℕ) (bs : List Backlog) : Type 0 where
  pub count : length bs ≡ n
  pub empty : (k : ℕ) → queue_at bs k ≡ []
  pub far : (k : ℕ) → k < length bs → 2 ^ 127 ≤ least_at bs k

-- so many inputs to which nothing came
pub record AreNew (n : ℕ) (rs : List Reach) : Type 0 where
  pub count : length rs ≡ n
  pub ends : (p : ℕ) → end_at rs p ≡ 0
  pub afters : (p : ℕ) → after_at rs p ≡ More

-- an output of n segments that gave nothing yet
pub record IsFresh (head : StreamHead) (tick n : ℕ) (t : Track) : Type 0 where
  pub head_is : t.head ≡ head
  pub tick_is : t.tick ≡ tick
  pub backlogs : AreEmpty n t.backlogs.items
  pub before : t.before ≡ 0
  pub current : t.current ≡ 0
  pub begin : t.begin ≡ 0
  pub end : t.end ≡ 0
  pub ended : t.ended ≡ false
  pub stopped : t.stopped ≡ false
