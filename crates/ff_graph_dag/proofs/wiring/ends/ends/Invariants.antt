use Rattle.std.proofs.Common.{◌≡◌, ◌++◌, drop}
use Rattle.ff_graph_dag.specs.laws.wiring.Wires.{ends_of}
use Rattle.ff_graph_dag.proofs.wiring.ends.ends.Given as goal

abbrev pub invariant-wires : goal.invariant-wires
invariant-wires l = l.ends.items ++ ends_of (drop l.wire l.wires) ≡ ends_of l.wires
