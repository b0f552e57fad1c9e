use Rattle.std.proofs.Common.{◌≡◌, drop}
use Rattle.ff_graph_links.specs.labels.Labels.{is_one_of, outs_of}
use Rattle.ff_graph_links.proofs.labels.labels.chain_gives.Given as goal

abbrev pub invariant-loop-filter : goal.invariant-loop-filter
invariant-loop-filter l = is_one_of l.label (outs_of (drop l.filter-index l.chain.filters)) ≡ is_one_of l.label (outs_of l.chain.filters)
