use Rattle.std.proofs.Common.{◌≡◌, ◌≤◌, ◌*◌}
use Rattle.ff_joins.specs.laws.JoinCuts.{width_to}
use Rattle.ff_joins.specs.laws.Lots.{lots}
use Rattle.ff_joins.proofs.rows.width.Given as goal

abbrev pub invariant-each : goal.invariant-each
invariant-each l = record {
  total : l.total ≡ width_to (lots l.inlets) l.p;
  few : l.total ≤ 255 * l.p;
}
