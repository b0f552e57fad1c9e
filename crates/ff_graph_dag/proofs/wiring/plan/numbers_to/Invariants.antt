use Rattle.std.proofs.Common.{◌≡◌, ◌-◌, ◌++◌}
use Rattle.ff_graph_dag.specs.laws.wiring.Wires.{numbers}
use Rattle.ff_graph_dag.proofs.wiring.plan.numbers_to.Given as goal

abbrev pub invariant-edges : goal.invariant-edges
invariant-edges l = l.edges.items ++ numbers l.edge (l.past - l.edge) ≡ numbers l.first (l.past - l.first)
