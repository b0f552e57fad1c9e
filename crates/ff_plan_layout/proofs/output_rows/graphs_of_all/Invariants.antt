use Rattle.std.proofs.Common.{◌≡◌, ◌+◌, ◌*◌, ◌≤◌, List, drop, length}
use Rattle.std.specs.List.{AllByRecursion}
use Rattle.ff_plan_layout.specs.LaidOut.{simple_graphs}
use Rattle.ff_plan_layout.specs.Streams.{Passed}
use Rattle.ff_plan_layout.proofs.output_rows.graphs_of_all.Given as goal

abbrev pub invariant-loop-row : goal.invariant-loop-row
invariant-loop-row l = record {
  rest : l.count + simple_graphs (drop l.row-index l.rows) ≡ simple_graphs l.rows;
  few : AllByRecursion (λ (row : List Passed). length row ≤ 16) (drop l.row-index l.rows);
  low : l.count ≤ 16 * l.row-index;
}
