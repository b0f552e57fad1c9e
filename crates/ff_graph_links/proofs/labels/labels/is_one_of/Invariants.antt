use Rattle.std.proofs.Common.{◌≡◌, drop}
use Rattle.ff_graph_links.specs.labels.Labels.{is_one_of}
use Rattle.ff_graph_links.proofs.labels.labels.is_one_of.Given as goal

abbrev pub invariant-loop-other : goal.invariant-loop-other
invariant-loop-other l = is_one_of l.text (drop l.other-index l.texts) ≡ is_one_of l.text l.texts
