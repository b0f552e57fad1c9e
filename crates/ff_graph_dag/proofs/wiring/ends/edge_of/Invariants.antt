use Rattle.std.proofs.Common.{◌≡◌, ◌+◌, drop}
use Rattle.ff_graph_dag.specs.laws.wiring.Wires.{edge_of}
use Rattle.ff_graph_dag.proofs.wiring.ends.edge_of.Given as goal

abbrev pub invariant-edges : goal.invariant-edges
invariant-edges l = l.edge + edge_of (drop l.edge l.ports) l.port ≡ edge_of l.ports l.port
