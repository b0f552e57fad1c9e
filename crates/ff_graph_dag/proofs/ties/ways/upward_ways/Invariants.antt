use Rattle.std.proofs.Common.{◌≡◌, ◌<◌, ◌≤◌, ℕ, List, Bool, Some, length, slice_get}
use Rattle.std.specs.Prelude.{vec_capacity}
use Rattle.ff_graph_dag.specs.declared.graph.Port.{Port}
use Rattle.ff_graph_dag.specs.laws.ties.Tied.{ways_at, IsReached}
use Rattle.ff_graph_dag.proofs.ties.ways.upward_ways.Given as goal

abbrev pub invariant-each : goal.invariant-each
invariant-each l = record {
  count : length l.ways.items ≡ l.q;
  room : length l.plan.pads.items ≤ vec_capacity l.ways;
  reached : (j : ℕ) (f : Port) → j < l.q → slice_get l.plan.pads.items j ≡ Some f → (needed : List Bool) × IsReached l.plan (ways_at l.ways.items j) f needed;
}
