use Rattle.std.proofs.Common.{◌≡◌, ◌++◌, drop}
use Rattle.ff_graph_links.specs.labels.Labels.{outs_of}
use Rattle.ff_graph_links.proofs.labels.names.add_chain.Given as goal

abbrev pub invariant-loop-filter : goal.invariant-loop-filter
invariant-loop-filter l = l.all.items ++ outs_of (drop l.filter-index l.chain.filters) ≡ l.initial.all.items ++ outs_of l.chain.filters
