use Rattle.std.proofs.Common.{◌≡◌, ◌++◌, drop}
use Rattle.std.specs.List.{flat_map}
use Rattle.ff_plan.specs.laws.Numbering.{sources_of}
use Rattle.ff_plan.proofs.origins.add_graph_sources.Given as goal

abbrev pub invariant-loop-graph : goal.invariant-loop-graph
invariant-loop-graph l = l.origins.items ++ flat_map sources_of (drop l.graph-index l.graphs) ≡ l.initial.origins.items ++ flat_map sources_of l.graphs
