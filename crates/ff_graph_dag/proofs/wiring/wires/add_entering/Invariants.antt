use Rattle.std.proofs.Common.{◌≡◌, ◌++◌, drop}
use Rattle.ff_graph_dag.specs.laws.wiring.Wires.{entering}
use Rattle.ff_graph_dag.proofs.wiring.wires.add_entering.Given as goal

abbrev pub invariant-inputs : goal.invariant-inputs
invariant-inputs l = l.wires.items ++ entering (drop l.input l.opens) ≡ l.initial.wires.items ++ entering l.opens
