use Rattle.std.proofs.Common.{drop}
use Rattle.std.specs.List.{AllByRecursion}
use Rattle.ff_graph_links.specs.labels.Labels.{IsShort}
use Rattle.ff_graph_links.proofs.labels.labels.are_short.Given as goal

abbrev pub invariant-loop-graph : goal.invariant-loop-graph
invariant-loop-graph l = record {
  yes : AllByRecursion IsShort (drop l.graph-index l.graphs) → AllByRecursion IsShort l.graphs;
  no : AllByRecursion IsShort l.graphs → AllByRecursion IsShort (drop l.graph-index l.graphs);
}
