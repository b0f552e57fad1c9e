use Rattle.std.proofs.Common.{◌≡◌, ◌++◌, drop}
use Rattle.ff_graph_links.specs.pads.Links.{all_seen, givers}
use Rattle.ff_graph_links.proofs.pads.feeding.add_givers.Given as goal

abbrev pub invariant-labels : goal.invariant-labels
invariant-labels l = l.feeders.items ++ givers (all_seen l.drawn) (drop l.place l.labels) ≡ l.initial.feeders.items ++ givers (all_seen l.drawn) l.labels
