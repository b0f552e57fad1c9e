use Rattle.std.proofs.Common.{◌≡◌, ◌+◌, ◌++◌, drop}
use Rattle.ff_graph_links.specs.labels.Names.{filters_fault}
use Rattle.ff_graph_links.specs.labels.Labels.{ins_of, outs_of}
use Rattle.ff_graph_links.proofs.labels.names.check_chain.Given as goal

abbrev pub invariant-loop-at : goal.invariant-loop-at
invariant-loop-at g l = record {
  rest : filters_fault (g.K.Known.filter l.known) (g.K.Known.stream l.known) l.given l.graph (l.first + l.at) l.seen.ins.items l.seen.outs.items (drop l.at l.filters) ≡ filters_fault (g.K.Known.filter l.known) (g.K.Known.stream l.known) l.given l.graph l.first l.initial.seen.ins.items l.initial.seen.outs.items l.filters;
  ins : l.seen.ins.items ++ ins_of (drop l.at l.filters) ≡ l.initial.seen.ins.items ++ ins_of l.filters;
  outs : l.seen.outs.items ++ outs_of (drop l.at l.filters) ≡ l.initial.seen.outs.items ++ outs_of l.filters;
}
