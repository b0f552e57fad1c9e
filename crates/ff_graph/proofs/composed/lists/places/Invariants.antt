use Rattle.std.proofs.Common.{◌≡◌, map}
use Rattle.ff_graph_dag.specs.laws.Graphs.{spots}
use Rattle.ff_graph.specs.laws.composed.Ready.{new_spot}
use Rattle.ff_graph.proofs.composed.lists.places.Given as goal

abbrev pub invariant-filters : goal.invariant-filters
invariant-filters g l = spots g.F.Filter.view l.places.items ≡ map (λ v. new_spot v) (map g.F.Filter.view l.yielded)
