-- Logs written at their places, and passes put together.
use Rattle.std.specs.Prelude.{◌≡◌, ◌+◌, true, List, [], ◌∷◌, ◌++◌, All, sum_by, slice_set, length}
use Rattle.ff_frame.specs.declared.event.Event.{Event}
use Rattle.ff_sched.specs.declared.logged.Logged.{Logged}
use Rattle.ff_sched.specs.declared.rule.View.{View}
use Rattle.ff_sched.specs.declared.routes.Routes.{Routes}
use Rattle.ff_sched.specs.State.{State}
use Rattle.ff_sched.specs.laws.Passing.{Passing, logs_of}
use Rattle.ff_sched.specs.Histories.{all_in, StartsWith, Rises}

-- the events with each entry at its place; later ones stand over earlier ones
abbrev pub write_all : List Logged → List Event → List Event
write_all [] events = events
write_all (l ∷ ls) events = write_all ls (slice_set events l.place l.event)

-- a view has taken in what these passes know
pub record Gathers (passes : List Passing) (v w : View) : Type 0 where
  pub rise : All (λ p. Rises (length p.seen) p.log) passes
  pub share : w.share ≡ v.share + sum_by (λ p. p.share) passes
  pub mine : w.mine ≡ v.mine ++ all_in (logs_of passes)
  pub opened : v.opened ≡ true → w.opened ≡ true
  pub routes : (r : Routes) → v.routes ≡ r → All (λ p. p.cell.routes ≡ r) passes → w.routes ≡ r
  pub opening : (o : State) → v.opening ≡ o → All (λ p. p.cell.opening ≡ o) passes → w.opening ≡ o
  pub sights : (events : List Event) → StartsWith events w.seen → All (StartsWith events) w.sights
      → StartsWith events v.seen × All (λ p. StartsWith events p.seen) passes
