use Rattle.std.proofs.Common.{◌≡◌, ◌<◌, ◌≤◌, ℕ, false, length, slice_get}
use Rattle.ff_graph_dag.specs.laws.Graphs.{among}
use Rattle.ff_graph_dag.specs.laws.ties.Tied.{wire_needed}
use Rattle.ff_graph_dag.proofs.ties.ways.needed_edges.Given as goal

abbrev pub invariant-down : goal.invariant-down
invariant-down l = record {
  within : l.edge ≤ length l.plan.wires.items;
  above : (w : ℕ) → l.edge ≤ w → among l.ways.items w ≡ wire_needed l.needed (slice_get l.plan.wires.items w);
  below : (w : ℕ) → w < l.edge → among l.ways.items w ≡ false;
}

abbrev pub decreases-down : goal.decreases-down
decreases-down l = l.edge
