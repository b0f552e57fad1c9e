use Rattle.std.proofs.Common.{◌≡◌, ◌++◌, drop}
use Rattle.std.specs.List.{flat_map}
use Rattle.ff_lang.specs.declared.graph.Chain.{Chain}
use Rattle.ff_graph_links.specs.labels.Labels.{outs_of, given_in}
use Rattle.ff_graph_links.proofs.labels.names.add_given.Given as goal

abbrev pub invariant-loop-chain : goal.invariant-loop-chain
invariant-loop-chain l = l.all.items ++ outs_of (flat_map (λ (c : Chain). c.filters) (drop l.chain-index l.graph.chains)) ≡ l.initial.all.items ++ given_in l.graph
