use Rattle.std.proofs.Common.{◌≡◌, ◌++◌, drop}
use Rattle.ff_graph_links.specs.pads.Links.{all_seen, pads_in, sources_from}
use Rattle.ff_graph_links.proofs.pads.sourcing.sources.Given as goal

abbrev pub invariant-filters : goal.invariant-filters
invariant-filters l = pads_in l.all.items ++ sources_from (all_seen l.drawn) l.filter (all_seen (drop l.filter l.drawn)) ≡ sources_from (all_seen l.drawn) 0 (all_seen l.drawn)
