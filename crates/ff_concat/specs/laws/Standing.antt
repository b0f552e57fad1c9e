-- How an output stands of which nothing waits in its current segment.
use Rattle.std.specs.Prelude.{◌≡◌, ℕ, ◌+◌, ◌-◌, ◌*◌, Bool, ◌&&◌, List, [], length}
use Rattle.ff_stream.specs.Stream.{whole, broken}
use Rattle.ff_stream.specs.Ports.{nothing}
use Rattle.ff_filter.specs.declared.after.After.{After}
use Rattle.ff_filter.specs.declared.after.After.TheVariants.{More, Whole, Broke}
use Rattle.ff_filter.specs.Joins.{Flow, silence}
use Rattle.ff_filter.specs.Made.{mark_after}
use Rattle.ff_filter.specs.Options.{is_video}
use Rattle.ff_concat.specs.declared.backlog.Backlog.{Backlog}
use Rattle.ff_concat.specs.declared.reach.Reach.{Reach}
use Rattle.ff_concat.specs.declared.track.Track.{Track}
use Rattle.ff_concat.specs.Following.{followed_at}
use Rattle.ff_concat.specs.Silences.{filled}
use Rattle.ff_concat.specs.Tails.{together}
use Rattle.ff_concat.specs.Concats.{is_lost, let_through}
use Rattle.ff_concat.specs.laws.Tracks.{after_at, tails, own}
use Rattle.ff_concat.specs.laws.Queues.{queue_at}

-- of segments from k on nothing can come, as far as is known
abbrev pub lost_from : List Backlog → List Reach → ℕ → ℕ → ℕ → Bool
lost_from bs rs w q k = is_lost w (length bs - k) k (own bs rs w q silence) (tails rs silence)

-- what comes of the current segment, of which nothing waits, and then of those behind it
abbrev pub bare : Track → List Reach → ℕ → ℕ → Flow → Flow
bare t rs w q next = followed_at [] (mark_after (after_at rs (t.current * w + q)))
    (let_through (together w (t.current * w) (tails rs silence)) (is_video t.head && lost_from t.backlogs.items rs w q (t.current + 1)) next)

-- nothing comes yet; or all of the segment came, and the next can begin; or it breaks off
abbrev pub StandsAs : After → Track → List Reach → ℕ → ℕ → Type 0
StandsAs More t rs w q = (next : Flow) → bare t rs w q next ≡ nothing
StandsAs Whole t rs w q = (after_at rs (t.current * w + q) ≡ Whole) × (together w (t.current * w) (tails rs silence) ≡ whole)
StandsAs Broke t rs w q = (next : Flow) → bare t rs w q next ≡ record { items = []; mark = broken }

-- all of the current segment was given, and each of its streams is whole
pub record IsPassed (t : Track) (rs : List Reach) (w q : ℕ) : Type 0 where
  pub no_zeros : filled t.head t.end t.by ≡ []
  pub no_items : queue_at t.backlogs.items t.current ≡ []
  pub stands : StandsAs Whole t rs w q
