use Rattle.std.proofs.Common.{◌≡◌, drop}
use Rattle.std.specs.List.{flat_map}
use Rattle.ff_lang.specs.declared.graph.Chain.{Chain}
use Rattle.ff_graph_links.specs.labels.Labels.{meet, given_in, taken_in, ins_of}
use Rattle.ff_graph_links.proofs.labels.labels.gives_to.Given as goal

abbrev pub invariant-loop-chain : goal.invariant-loop-chain
invariant-loop-chain l = meet (ins_of (flat_map (λ (c : Chain). c.filters) (drop l.chain-index l.to.chains))) (given_in l.from) ≡ meet (taken_in l.to) (given_in l.from)
