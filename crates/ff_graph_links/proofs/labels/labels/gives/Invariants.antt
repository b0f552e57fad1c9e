use Rattle.std.proofs.Common.{◌≡◌, drop}
use Rattle.std.specs.List.{flat_map}
use Rattle.ff_lang.specs.declared.graph.Chain.{Chain}
use Rattle.ff_graph_links.specs.labels.Labels.{is_one_of, given_in, outs_of}
use Rattle.ff_graph_links.proofs.labels.labels.gives.Given as goal

abbrev pub invariant-loop-chain : goal.invariant-loop-chain
invariant-loop-chain l = is_one_of l.label (outs_of (flat_map (λ (c : Chain). c.filters) (drop l.chain-index l.graph.chains))) ≡ is_one_of l.label (given_in l.graph)
