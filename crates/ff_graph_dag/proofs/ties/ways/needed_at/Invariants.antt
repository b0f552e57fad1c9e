use Rattle.std.proofs.Common.{◌≡◌, ◌<◌, ◌≤◌, true, length}
use Rattle.ff_graph_dag.specs.laws.ties.Tied.{is_needed, IsUpward}
use Rattle.ff_graph_dag.proofs.TiesLemmas.Steps.{ClosedAbove}
use Rattle.ff_graph_dag.proofs.ties.ways.needed_at.Given as goal

abbrev pub invariant-down : goal.invariant-down
invariant-down l = record {
  within : l.edge ≤ length l.plan.wires.items;
  pad : l.fn.pad.filter < length l.plan.nodes.items → is_needed l.needed.items l.fn.pad.filter ≡ true;
  closed : IsUpward l.plan.wires.items → ClosedAbove l.plan.wires.items l.needed.items l.edge;
}

abbrev pub decreases-down : goal.decreases-down
decreases-down l = l.edge
