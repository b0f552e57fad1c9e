-- The scheduler in one place.
use Rattle.std.specs.Prelude.{◌≡◌, ℕ, ◌+◌, List, [], ◌∷◌, ◌++◌, length}
use Rattle.ff_frame.specs.declared.event.Event.{Event}
use Rattle.ff_frame.specs.declared.event.Event.TheVariants.{Grant as GrantOf}
use Rattle.ff_sched.specs.declared.routes.Routes.{Routes}
use Rattle.ff_sched.specs.declared.cell.Grant.{Grant}
use Rattle.ff_sched.specs.declared.cell.Grant.TheVariants.{Go, Choked}
use Rattle.ff_sched.specs.State.{State}
use Rattle.ff_sched.specs.laws.Routes.{AreRoutes}
use Rattle.ff_sched.specs.Events.{fold}
use Rattle.ff_sched.specs.Unchoked.{Unchokes}
use Rattle.ff_sched.specs.Histories.{IsLegal}

pub record Plain : Type 0 where
  pub opening : State
  pub routes : Routes
  pub events : List Event

-- the state that it holds
abbrev pub held_by : Plain → State
held_by n = fold n.opening n.events

-- the state is what the events leave of the opening one, and they are legal
pub record IsPlain (routes : Routes) (opening state : State) (events : List Event) : Type 0 where
  pub routed : AreRoutes routes
  pub folded : state ≡ fold opening events
  pub legal : IsLegal routes opening events

-- the event stands behind the others, at this place
pub record Heard (n : Plain) (e : Event) (place : ℕ) (m : Plain) : Type 0 where
  pub at : place ≡ n.opening.count + length n.events
  pub same : m ≡ record n { events = n.events ++ e ∷ [] }

-- a grant that the state held allows was added; or nothing was, and the state held doesn't unchoke the source
abbrev pub Offered : Plain → ℕ → Grant → Plain → Type 0
Offered n s (Go ticket) m = (ticket.source ≡ s) × Unchokes n.routes (held_by n) s × Heard n (GrantOf s) ticket.place m
Offered n s (Choked state) m = (state ≡ held_by n) × (Unchokes n.routes state s → ⊥) × (m ≡ n)
