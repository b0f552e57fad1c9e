use Rattle.std.proofs.Common.{◌≡◌, ◌≤◌, None, replicate}
use Rattle.std.specs.Prelude.{vec_capacity}
use Rattle.ff_graph_dag.proofs.placed.none_held.Given as goal

abbrev pub invariant-made : goal.invariant-made
invariant-made l = record {
  held : l.held.items ≡ replicate l.i None;
  room : l.count ≤ vec_capacity l.held;
}
