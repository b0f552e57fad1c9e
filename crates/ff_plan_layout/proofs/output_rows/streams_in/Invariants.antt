use Rattle.std.proofs.Common.{◌≡◌, ◌+◌, ◌*◌, ◌≤◌, List, drop, length}
use Rattle.std.specs.List.{AllByRecursion, flat_map}
use Rattle.ff_plan_layout.specs.Streams.{Passed}
use Rattle.ff_plan_layout.proofs.output_rows.streams_in.Given as goal

abbrev pub invariant-loop-row : goal.invariant-loop-row
invariant-loop-row l = record {
  rest : l.count + length (flat_map (λ (row : List Passed). row) (drop l.row-index l.rows)) ≡ length (flat_map (λ (row : List Passed). row) l.rows);
  few : AllByRecursion (λ (row : List Passed). length row ≤ 16) (drop l.row-index l.rows);
  low : l.count ≤ 16 * l.row-index;
}
