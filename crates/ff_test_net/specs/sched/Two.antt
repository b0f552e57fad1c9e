-- A cell of two streams on two sources, and its passes.
use Rattle.std.specs.Prelude.{◌≡◌, length}
use Rattle.ff_sched.specs.declared.routes.Routes.{Routes}
use Rattle.ff_sched.specs.laws.Passing.{Scheduler, Passing}

abbrev pub IsTwo : Routes → Type 0
IsTwo r = (r.sources ≡ 2) × (length r.streams ≡ 2)

-- a pass of such a cell
abbrev pub IsOf : Scheduler → Passing → Type 0
IsOf cell pass = IsTwo cell.routes × (pass.cell ≡ cell)

-- a pass of the same cell that has the same share
abbrev pub IsLike : Passing → Passing → Type 0
IsLike p q = (q.cell ≡ p.cell) × (q.share ≡ p.share)

-- two passes of such a cell that may add 100,000 events each
abbrev pub AreOf : Scheduler → Passing → Passing → Type 0
AreOf cell p q = IsTwo cell.routes × (p.cell ≡ cell) × (q.cell ≡ cell) × (p.share ≡ 100000) × (q.share ≡ 100000)
