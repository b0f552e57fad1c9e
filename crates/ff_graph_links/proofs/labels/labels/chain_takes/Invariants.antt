use Rattle.std.proofs.Common.{◌≡◌, drop}
use Rattle.ff_graph_links.specs.labels.Labels.{is_one_of, ins_of}
use Rattle.ff_graph_links.proofs.labels.labels.chain_takes.Given as goal

abbrev pub invariant-loop-filter : goal.invariant-loop-filter
invariant-loop-filter l = is_one_of l.label (ins_of (drop l.filter-index l.chain.filters)) ≡ is_one_of l.label (ins_of l.chain.filters)
