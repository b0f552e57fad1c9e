use Rattle.std.proofs.Common.{◌≡◌, drop}
use Rattle.std.specs.List.{AllByRecursion}
use Rattle.ff_graph_links.specs.labels.Names.{graphs_fault, labels_fault, all_given}
use Rattle.ff_graph_links.specs.labels.Labels.{IsShort}
use Rattle.ff_graph_links.proofs.labels.names.check_labels.Given as goal

abbrev pub invariant-loop-number : goal.invariant-loop-number
invariant-loop-number g l = record {
  rest : graphs_fault (g.K.Known.filter l.known) (g.K.Known.stream l.known) (all_given l.graphs) l.number l.seen.ins.items l.seen.outs.items (drop l.number l.graphs) ≡ labels_fault (g.K.Known.filter l.known) (g.K.Known.stream l.known) l.graphs;
  few : AllByRecursion IsShort (drop l.number l.graphs);
}
