use Rattle.std.proofs.Common.{◌≡◌, drop}
use Rattle.ff_graph_links.specs.labels.Names.{twice_in}
use Rattle.ff_graph_links.specs.labels.Labels.{filters_of}
use Rattle.ff_graph_links.proofs.LabelsLemmas.Faults.{filters_from}
use Rattle.ff_graph_links.proofs.labels.alone.check_chains.Given as goal

abbrev pub invariant-loop-chain : goal.invariant-loop-chain
invariant-loop-chain l = twice_in l.seen.ins.items l.seen.outs.items (filters_from (drop l.chain-index l.graph.chains)) ≡ twice_in l.initial.seen.ins.items l.initial.seen.outs.items (filters_of l.graph)
