use Rattle.std.proofs.Common.{◌≡◌, drop}
use Rattle.std.specs.List.{flat_map}
use Rattle.ff_graph_links.specs.labels.Labels.{is_one_of}
use Rattle.ff_plan_layout.specs.LaidOut.{labels_of}
use Rattle.ff_plan_layout.proofs.mapping.outs_use.Given as goal

abbrev pub invariant-loop-out : goal.invariant-loop-out
invariant-loop-out l = is_one_of l.label (flat_map labels_of (drop l.out-index l.outs)) ≡ is_one_of l.label (flat_map labels_of l.outs)
