use Rattle.std.proofs.Common.{◌≡◌, drop}
use Rattle.ff_graph_links.specs.pads.Links.{place_from}
use Rattle.ff_graph_links.proofs.pads.drawn.place_of.Given as goal

abbrev pub invariant-labels : goal.invariant-labels
invariant-labels l = place_from l.place (drop l.place l.labels) l.label ≡ place_from 0 l.labels l.label
