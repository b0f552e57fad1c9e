use Rattle.std.proofs.Common.{◌≡◌, ◌++◌, drop}
use Rattle.ff_graph_links.specs.pads.Links.{all_seen, filters_in, feeders_from}
use Rattle.ff_graph_links.proofs.pads.feeding.feeders.Given as goal

abbrev pub invariant-filters : goal.invariant-filters
invariant-filters l = filters_in l.all.items ++ feeders_from (all_seen l.drawn) l.filter (all_seen (drop l.filter l.drawn)) ≡ feeders_from (all_seen l.drawn) 0 (all_seen l.drawn)
