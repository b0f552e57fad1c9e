use Rattle.std.proofs.Common.{◌≡◌, drop}
use Rattle.std.specs.List.{flat_map}
use Rattle.ff_lang.specs.declared.graph.Chain.{Chain}
use Rattle.ff_graph_links.specs.labels.Labels.{is_one_of, taken_in, ins_of}
use Rattle.ff_graph_links.proofs.labels.labels.takes.Given as goal

abbrev pub invariant-loop-chain : goal.invariant-loop-chain
invariant-loop-chain l = is_one_of l.label (ins_of (flat_map (λ (c : Chain). c.filters) (drop l.chain-index l.graph.chains))) ≡ is_one_of l.label (taken_in l.graph)
