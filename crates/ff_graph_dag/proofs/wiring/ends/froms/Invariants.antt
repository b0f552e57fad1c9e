use Rattle.std.proofs.Common.{◌≡◌, ◌++◌, drop, map}
use Rattle.ff_graph_dag.proofs.wiring.ends.froms.Given as goal

abbrev pub invariant-wires : goal.invariant-wires
invariant-wires l = l.froms.items ++ map (λ x. x.from) (drop l.wire l.wires) ≡ map (λ x. x.from) l.wires
