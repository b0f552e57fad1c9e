-- Framesync of streams of pictures: a law of its definition, and what it is of valid streams.
use Rattle.std.specs.Prelude.{ℕ, pos, Bool, List, [], ◌∷◌, refl}
use Rattle.ff_frame.specs.declared.video.Format.TheVariants.{Mono}
use Rattle.ff_stream.specs.declared.item.Item.{Item}
use Rattle.ff_stream.specs.declared.item.Item.TheVariants.{Video}
use Rattle.ff_stream.specs.laws.Breaks.{KeepsBrokenRule}
use Rattle.ff_stream.specs.Ports.{stream_at}
use Rattle.ff_filter.specs.Joins.{Flow}
use Rattle.ff_fsync.specs.Synced.{Timing, synced}
use Rattle.ff_fsync.specs.laws.SyncBreaks.{AreRisen, synced-keeps}
use Rattle.ff_fsync.specs.Sides.{time_among}

-- so many streams of pictures
abbrev pub timed : ℕ → Bool → Timing Item
timed n shortest = record { inputs = n; at = time_among; shortest = shortest }

-- what is shown of so many streams
abbrev pub shown_of : ℕ → Bool → (ℕ → List Item → Item) → List Flow → Flow
shown_of n shortest show ss = synced (timed n shortest) show (stream_at ss)

-- a picture at this time
abbrev picture_at : ℕ → ℕ → Item
picture_at p t = Video (record { pts = pos t; duration = pos 1; format = Mono; width = 1; height = 1; planes = 0 ∷ [] })

pub shown_keeps : (n : ℕ) (shortest : Bool) (show : ℕ → List Item → Item) → KeepsBrokenRule (AreRisen (timed n shortest)) (shown_of n shortest show)
shown_keeps n shortest show = synced-keeps (timed n shortest) picture_at (λ p t. refl) show
