use Rattle.std.proofs.Common.{◌≡◌, ◌++◌, drop}
use Rattle.ff_graph_links.specs.pads.Links.{pads_in, opens_from}
use Rattle.ff_graph_links.proofs.pads.opening.open_inputs.Given as goal

abbrev pub invariant-filters : goal.invariant-filters
invariant-filters l = l.pads.items ++ opens_from l.filter (pads_in (drop l.filter l.sources)) ≡ opens_from 0 (pads_in l.sources)
