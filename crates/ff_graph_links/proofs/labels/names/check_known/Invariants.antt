use Rattle.std.proofs.Common.{◌≡◌, drop}
use Rattle.ff_graph_links.specs.labels.Names.{unknown_label}
use Rattle.ff_graph_links.proofs.labels.names.check_known.Given as goal

abbrev pub invariant-loop-label : goal.invariant-loop-label
invariant-loop-label g l = unknown_label (g.K.Known.stream l.known) l.given (drop l.label-index l.labels) ≡ unknown_label (g.K.Known.stream l.known) l.given l.labels
