use Rattle.std.proofs.Common.{◌≡◌, drop}
use Rattle.ff_graph_links.specs.labels.Labels.{is_one_of}
use Rattle.ff_plan_layout.specs.Labels.{taken_labels}
use Rattle.ff_plan_layout.proofs.mapping.graphs_take.Given as goal

abbrev pub invariant-loop-graph : goal.invariant-loop-graph
invariant-loop-graph l = is_one_of l.label (taken_labels (drop l.graph-index l.graphs)) ≡ is_one_of l.label (taken_labels l.graphs)
