use Rattle.std.proofs.Common.{◌≡◌, ◌++◌, ◌*◌, ◌^◌, ◌≤◌, drop, vec_len}
use Rattle.ff_plan_layout.specs.Sources.{sources_of}
use Rattle.ff_plan_layout.proofs.sources.sources_of.Given as goal

abbrev pub invariant-loop-graph : goal.invariant-loop-graph
invariant-loop-graph g l = record {
  made : l.made.items ++ sources_of (g.F.Filtering.rules l.filtering) (drop l.graph-index l.graphs) ≡ sources_of (g.F.Filtering.rules l.filtering) l.graphs;
  few : vec_len l.made ≤ 2 ^ 20 * l.graph-index;
}
