-- The log of a node's pass, and how a pass goes on.
use Rattle.std.specs.Prelude.{◌≡◌, ℕ, All, List, [], ◌∷◌, ◌++◌, Option, None, Some}
use mathlib.Core.List.{IsPrefix}
use Rattle.ff_frame.specs.declared.event.Ticket.{Ticket}
use Rattle.ff_frame.specs.declared.event.Event.{Event}
use Rattle.ff_frame.specs.declared.event.Event.TheVariants.{Grant, Sent, Finished, Best, Exited}
use Rattle.ff_sched.specs.declared.logged.Logged.{Logged}
use Rattle.ff_sched.specs.laws.Passing.{Passing}
use Rattle.ff_sched.specs.Events.{fold}
use Rattle.ff_sched.specs.Histories.{StartsWith}
use Rattle.ff_sched.specs.Unchoked.{Unchokes}

abbrev pub ticket_of : Event → ℕ → List Ticket
ticket_of (Grant s) place = record { source = s; place = place } ∷ []
ticket_of (Sent j t) place = []
ticket_of (Finished j) place = []
ticket_of (Best g i) place = []
ticket_of (Exited s) place = []

-- the grants of a log, in their order, as tickets: each with its source and its place
abbrev pub tickets_in : List Logged → List Ticket
tickets_in [] = []
tickets_in (l ∷ ls) = ticket_of l.event l.place ++ tickets_in ls

abbrev pub telling_of : Event → List Event
telling_of (Grant s) = []
telling_of (Sent j t) = Sent j t ∷ []
telling_of (Finished j) = Finished j ∷ []
telling_of (Best g i) = Best g i ∷ []
telling_of (Exited s) = Exited s ∷ []

-- the other events of a log, in their order
abbrev pub told_in : List Logged → List Event
told_in [] = []
told_in (l ∷ ls) = telling_of l.event ++ told_in ls

-- the ticket that is held, if one is
abbrev pub hand_of : Option Ticket → List Ticket
hand_of None = []
hand_of (Some t) = t ∷ []

-- each of these tickets is of this source
abbrev pub AreTicketsOf : Option ℕ → List Ticket → Type 0
AreTicketsOf source tickets = All (λ t. source ≡ Some t.source) tickets

-- no grant stands behind another event
pub record GrantsFirst (log : List Logged) : Type 0 where
  pub grants : List Logged
  pub tellings : List Logged
  pub all : log ≡ grants ++ tellings
  pub only_grants : told_in grants ≡ []
  pub no_grants : tickets_in tellings ≡ []

-- from one moment of a pass to a later one: it is of the same cell and has the same share, it has seen no less, and its log
-- goes on
pub record PassStep (p q : Passing) : Type 0 where
  pub cell : q.cell ≡ p.cell
  pub share : q.share ≡ p.share
  pub seen : StartsWith q.seen p.seen
  pub log : IsPrefix p.log q.log

-- Between these moments of a pass nothing was added by it, and what it has seen since is a history whose state doesn't unchoke
-- the source
pub record WasChoked (p : Passing) (source : ℕ) (q : Passing) : Type 0 where
  pub same : q ≡ record p { seen = q.seen; spare = q.spare }
  pub more : StartsWith q.seen p.seen
  pub choked : Unchokes p.cell.routes (fold p.cell.opening q.seen) source → ⊥
