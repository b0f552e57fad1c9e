-- What `take_grant` answers.
use Rattle.std.specs.Prelude.{◌≡◌, ℕ}
use Rattle.ff_frame.specs.declared.event.Event.TheVariants.{Grant as GrantOf}
use Rattle.ff_sched.specs.declared.cell.Grant.{Grant}
use Rattle.ff_sched.specs.declared.cell.Grant.TheVariants.{Go, Choked}
use Rattle.ff_sched.specs.laws.Passing.{Passing, Told, IsChoked}

abbrev pub Granted : Passing → ℕ → Grant → Passing → Type 0
Granted p s (Go ticket) q = (ticket.source ≡ s) × Told p (GrantOf s) ticket.place q
Granted p s (Choked state) q = IsChoked p s state q
