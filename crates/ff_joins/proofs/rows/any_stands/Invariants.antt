use Rattle.std.proofs.Common.{◌≡◌, ◌<◌, ℕ}
use Rattle.ff_joins.specs.laws.Lots.{lots}
use Rattle.ff_joins.proofs.rows.any_stands.Given as goal

abbrev pub invariant-each : goal.invariant-each
invariant-each l = (q : ℕ) → q < l.p → (lots l.inlets q).count ≡ l.count → (lots l.inlets q).after ≡ l.after → ⊥
