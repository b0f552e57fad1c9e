use Rattle.std.proofs.Common.{◌≡◌, ◌*◌, ◌≤◌, ◌++◌, drop}
use Rattle.ff_plan_layout.specs.Layout.{place_from}
use Rattle.ff_plan_layout.specs.laws.Rows.{rows}
use Rattle.ff_plan.proofs.nodes.place.Given as goal

abbrev pub invariant-loop-output : goal.invariant-loop-output
invariant-loop-output l = record {
  placed : l.placed.items ++ place_from l.number l.output (rows (drop l.output l.all)) ≡ place_from 0 0 (rows l.all);
  low : l.number ≤ 16 * l.output;
}
