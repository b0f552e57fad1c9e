use Rattle.std.proofs.Common.{◌≡◌, ◌+◌, ◌≤◌, drop}
use Rattle.ff_plan_layout.specs.LaidOut.{graphs_of}
use Rattle.ff_plan_layout.proofs.passing.graphs_in.Given as goal

abbrev pub invariant-loop-passed : goal.invariant-loop-passed
invariant-loop-passed l = record {
  rest : l.count + graphs_of (drop l.passed-index l.row) ≡ graphs_of l.row;
  few : l.count ≤ l.passed-index;
}
