use Rattle.std.proofs.Common.{◌≡◌, ◌+◌, ◌*◌, ◌^◌, ◌≤◌, drop}
use Rattle.std.specs.List.{AllByRecursion}
use Rattle.ff_stream.specs.edges.Ports.{tally}
use Rattle.ff_plan_layout.specs.laws.Limits.{IsFewWants}
use Rattle.ff_plan_layout.specs.Pads.{is_source}
use Rattle.ff_plan_layout.specs.laws.Rows.{flat}
use Rattle.ff_plan_layout.proofs.wanting.sources_in_rows.Given as goal

abbrev pub invariant-loop-row : goal.invariant-loop-row
invariant-loop-row l = record {
  rest : l.count + tally (is_source l.inputs) (flat (drop l.row-index l.rows)) ≡ tally (is_source l.inputs) (flat l.rows);
  few : AllByRecursion IsFewWants (drop l.row-index l.rows);
  low : l.count ≤ 2 ^ 20 * l.row-index;
}
