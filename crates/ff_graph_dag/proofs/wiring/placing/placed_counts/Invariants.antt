use Rattle.std.proofs.Common.{◌≡◌, ◌++◌, drop, map, slice_index_or}
use Rattle.ff_graph_dag.specs.wiring.Flows.{placed_counts}
use Rattle.ff_graph_dag.proofs.wiring.placing.placed_counts.Given as goal

abbrev pub invariant-places : goal.invariant-places
invariant-places l = l.placed.items ++ map (λ k. slice_index_or l.counts k 0) (drop l.place l.order) ≡ placed_counts l.order l.counts
