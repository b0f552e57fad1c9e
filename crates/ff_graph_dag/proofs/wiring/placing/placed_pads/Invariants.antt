use Rattle.std.proofs.Common.{◌≡◌, ◌++◌, drop, map}
use Rattle.ff_graph_dag.specs.wiring.Flows.{port_at, placed_pads}
use Rattle.ff_graph_dag.proofs.wiring.placing.placed_pads.Given as goal

abbrev pub invariant-pads : goal.invariant-pads
invariant-pads l = l.ports.items ++ map (λ p. port_at l.order p) (drop l.pad l.pads) ≡ placed_pads l.order l.pads
