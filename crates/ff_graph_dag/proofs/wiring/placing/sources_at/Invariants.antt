use Rattle.std.proofs.Common.{◌≡◌, ◌++◌, drop, map}
use Rattle.ff_graph_dag.specs.wiring.Flows.{port_of_source}
use Rattle.ff_graph_dag.proofs.wiring.placing.sources_at.Given as goal

abbrev pub invariant-pads : goal.invariant-pads
invariant-pads l = l.ports.items ++ map (λ s. port_of_source l.order s) (drop l.pad l.sources) ≡ map (λ s. port_of_source l.order s) l.sources
