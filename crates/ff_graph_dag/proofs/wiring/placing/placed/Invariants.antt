use Rattle.std.proofs.Common.{◌≡◌, ◌++◌, [], drop, map, slice_index_or}
use Rattle.ff_graph_links.specs.pads.Links.{pads_in}
use Rattle.ff_graph_dag.specs.laws.wiring.Wires.{feeds_in}
use Rattle.ff_graph_dag.specs.wiring.Flows.{port_of_source, placed}
use Rattle.ff_graph_dag.proofs.wiring.placing.placed.Given as goal

abbrev pub invariant-places : goal.invariant-places
invariant-places l = feeds_in l.fed.items ++ map (λ k. map (λ s. port_of_source l.order s) (slice_index_or (pads_in l.sources) k [])) (drop l.place l.order)
    ≡ placed l.order (pads_in l.sources)
