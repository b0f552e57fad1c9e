use Rattle.std.proofs.Common.{◌≡◌, ◌-◌, ◌++◌}
use Rattle.ff_graph_dag.specs.laws.wiring.Wires.{edges_up}
use Rattle.ff_graph_dag.proofs.wiring.nodes.edges_at.Given as goal

abbrev pub invariant-ports : goal.invariant-ports
invariant-ports l = l.edges.items ++ edges_up l.ports l.filter l.port (l.count - l.port) ≡ edges_up l.ports l.filter 0 l.count
