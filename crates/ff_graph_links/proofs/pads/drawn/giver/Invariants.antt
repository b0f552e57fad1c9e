use Rattle.std.proofs.Common.{◌≡◌, drop}
use Rattle.ff_graph_links.specs.pads.Links.{all_seen, giver_from}
use Rattle.ff_graph_links.proofs.pads.drawn.giver.Given as goal

abbrev pub invariant-filters : goal.invariant-filters
invariant-filters l = giver_from l.filter (all_seen (drop l.filter l.drawn)) l.label ≡ giver_from 0 (all_seen l.drawn) l.label
