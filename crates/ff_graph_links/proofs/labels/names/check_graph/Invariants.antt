use Rattle.std.proofs.Common.{◌≡◌, ◌+◌, ◌++◌, drop, length}
use Rattle.std.specs.List.{flat_map}
use Rattle.ff_lang.specs.declared.graph.Chain.{Chain}
use Rattle.ff_graph_links.specs.labels.Names.{filters_fault}
use Rattle.ff_graph_links.specs.labels.Labels.{filters_of, ins_of, outs_of, taken_in, given_in}
use Rattle.ff_graph_links.proofs.labels.names.check_graph.Given as goal

abbrev pub invariant-loop-chain : goal.invariant-loop-chain
invariant-loop-chain g l = record {
  rest : filters_fault (g.K.Known.filter l.known) (g.K.Known.stream l.known) l.given l.number l.first l.seen.ins.items l.seen.outs.items (flat_map (λ (c : Chain). c.filters) (drop l.chain-index l.graph.chains)) ≡ filters_fault (g.K.Known.filter l.known) (g.K.Known.stream l.known) l.given l.number 0 l.initial.seen.ins.items l.initial.seen.outs.items (filters_of l.graph);
  few : l.first + length (flat_map (λ (c : Chain). c.filters) (drop l.chain-index l.graph.chains)) ≡ length (filters_of l.graph);
  ins : l.seen.ins.items ++ ins_of (flat_map (λ (c : Chain). c.filters) (drop l.chain-index l.graph.chains)) ≡ l.initial.seen.ins.items ++ taken_in l.graph;
  outs : l.seen.outs.items ++ outs_of (flat_map (λ (c : Chain). c.filters) (drop l.chain-index l.graph.chains)) ≡ l.initial.seen.outs.items ++ given_in l.graph;
}
