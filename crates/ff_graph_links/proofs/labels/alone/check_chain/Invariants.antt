use Rattle.std.proofs.Common.{◌≡◌, ◌++◌, drop}
use Rattle.ff_graph_links.specs.labels.Names.{twice_in}
use Rattle.ff_graph_links.specs.labels.Labels.{ins_of, outs_of}
use Rattle.ff_graph_links.proofs.labels.alone.check_chain.Given as goal

abbrev pub invariant-loop-filter : goal.invariant-loop-filter
invariant-loop-filter l = record {
  rest : twice_in l.seen.ins.items l.seen.outs.items (drop l.filter-index l.filters) ≡ twice_in l.initial.seen.ins.items l.initial.seen.outs.items l.filters;
  ins : l.seen.ins.items ++ ins_of (drop l.filter-index l.filters) ≡ l.initial.seen.ins.items ++ ins_of l.filters;
  outs : l.seen.outs.items ++ outs_of (drop l.filter-index l.filters) ≡ l.initial.seen.outs.items ++ outs_of l.filters;
}
