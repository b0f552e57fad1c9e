use Rattle.std.proofs.Common.{◌≡◌, ◌+◌, drop}
use Rattle.ff_graph_links.specs.labels.Names.{unknown_filter}
use Rattle.ff_graph_links.proofs.labels.alone.check_names_from.Given as goal

abbrev pub invariant-loop-at : goal.invariant-loop-at
invariant-loop-at g l = unknown_filter (g.K.Known.filter l.known) l.graph (l.first + l.at) (drop l.at l.filters) ≡ unknown_filter (g.K.Known.filter l.known) l.graph l.first l.filters
