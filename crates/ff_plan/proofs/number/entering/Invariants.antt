use Rattle.std.proofs.Common.{◌≡◌, ◌≤◌, ◌==◌, take}
use Rattle.ff_stream.specs.declared.edges.edge.Edge.{Edge}
use Rattle.ff_stream.specs.edges.Ports.{tally}
use Rattle.ff_plan.proofs.number.entering.Given as goal

abbrev pub invariant-loop-edge : goal.invariant-loop-edge
invariant-loop-edge l = record {
  counted : l.count ≡ tally (λ (e : Edge). e.to == l.node) (take l.edge-index l.edges);
  low : l.count ≤ l.edge-index;
}
