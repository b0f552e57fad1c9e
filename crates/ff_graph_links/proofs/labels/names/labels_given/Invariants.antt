use Rattle.std.proofs.Common.{◌≡◌, ◌++◌, drop}
use Rattle.ff_graph_links.specs.labels.Names.{all_given}
use Rattle.ff_graph_links.proofs.labels.names.labels_given.Given as goal

abbrev pub invariant-loop-graph : goal.invariant-loop-graph
invariant-loop-graph l = l.all.items ++ all_given (drop l.graph-index l.graphs) ≡ all_given l.graphs
