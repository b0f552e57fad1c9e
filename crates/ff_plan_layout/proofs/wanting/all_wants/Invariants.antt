use Rattle.std.proofs.Common.{◌≡◌, ◌++◌, [], drop, vec_len}
use Rattle.std.specs.List.{AllByRecursion}
use Rattle.ff_words.specs.maps.Choice.{lists}
use Rattle.ff_plan_layout.specs.laws.Limits.{IsFewWants}
use Rattle.ff_plan_layout.specs.Pads.{wants_from}
use Rattle.ff_plan_layout.specs.laws.Rows.{flat}
use Rattle.ff_plan_layout.proofs.wanting.all_wants.Given as goal

abbrev pub invariant-loop-graph : goal.invariant-loop-graph
invariant-loop-graph g l = record {
  wants : l.rows.items ++ wants_from (g.F.Filtering.rules l.filtering) l.sources (lists l.heads) l.graphs (flat l.rows.items) (drop l.graph-index l.graphs) ≡ wants_from (g.F.Filtering.rules l.filtering) l.sources (lists l.heads) l.graphs [] l.graphs;
  count : vec_len l.rows ≡ l.graph-index;
  few : AllByRecursion IsFewWants l.rows.items;
}
