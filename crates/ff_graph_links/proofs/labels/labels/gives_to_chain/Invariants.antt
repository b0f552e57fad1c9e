use Rattle.std.proofs.Common.{◌≡◌, drop}
use Rattle.ff_graph_links.specs.labels.Labels.{meet, given_in, ins_of}
use Rattle.ff_graph_links.proofs.labels.labels.gives_to_chain.Given as goal

abbrev pub invariant-loop-filter : goal.invariant-loop-filter
invariant-loop-filter l = meet (ins_of (drop l.filter-index l.chain.filters)) (given_in l.graph) ≡ meet (ins_of l.chain.filters) (given_in l.graph)
