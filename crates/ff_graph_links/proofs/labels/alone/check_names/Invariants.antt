use Rattle.std.proofs.Common.{◌≡◌, ◌+◌, drop, length}
use Rattle.ff_graph_links.specs.labels.Names.{unknown_filter}
use Rattle.ff_graph_links.specs.labels.Labels.{filters_of}
use Rattle.ff_graph_links.proofs.LabelsLemmas.Faults.{filters_from}
use Rattle.ff_graph_links.proofs.labels.alone.check_names.Given as goal

abbrev pub invariant-loop-chain : goal.invariant-loop-chain
invariant-loop-chain g l = record {
  rest : unknown_filter (g.K.Known.filter l.known) l.number l.first (filters_from (drop l.chain-index l.graph.chains)) ≡ unknown_filter (g.K.Known.filter l.known) l.number 0 (filters_of l.graph);
  few : l.first + length (filters_from (drop l.chain-index l.graph.chains)) ≡ length (filters_of l.graph);
}
