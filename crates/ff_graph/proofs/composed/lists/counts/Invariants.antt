use Rattle.std.proofs.Common.{◌≡◌, take}
use Rattle.ff_graph.specs.laws.Pads.{heads_in}
use Rattle.ff_graph.specs.laws.composed.Ready.{counts_of}
use Rattle.ff_graph.proofs.composed.lists.counts.Given as goal

abbrev pub invariant-filters : goal.invariant-filters
invariant-filters l = l.counts.items ≡ counts_of (heads_in (take l.at l.heads))
