use Rattle.std.proofs.Common.{◌≡◌, drop}
use Rattle.ff_graph_links.specs.labels.Labels.{meet, given_in}
use Rattle.ff_graph_links.proofs.labels.labels.gives_any.Given as goal

abbrev pub invariant-loop-label : goal.invariant-loop-label
invariant-loop-label l = meet (drop l.label-index l.labels) (given_in l.graph) ≡ meet l.labels (given_in l.graph)
