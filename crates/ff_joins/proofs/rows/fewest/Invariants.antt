use Rattle.std.proofs.Common.{◌≡◌, ◌<◌, ◌≤◌, ℕ, length}
use Rattle.ff_joins.specs.laws.Lots.{lots}
use Rattle.ff_joins.proofs.rows.fewest.Given as goal

abbrev pub invariant-each : goal.invariant-each
invariant-each l = record {
  least : (q : ℕ) → q < l.p → l.least ≤ (lots l.inlets q).count;
  there : (q : ℕ) × (q < length l.inlets) × ((lots l.inlets q).count ≡ l.least);
}
