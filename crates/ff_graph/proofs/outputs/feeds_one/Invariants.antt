use Rattle.std.proofs.Common.{◌≡◌, drop}
use Rattle.ff_graph_links.specs.pads.Links.{pads_in}
use Rattle.ff_graph.specs.Configured.{feeds_one}
use Rattle.ff_graph.proofs.outputs.feeds_one.Given as goal

abbrev pub invariant-filters : goal.invariant-filters
invariant-filters l = feeds_one (pads_in (drop l.at l.sources)) l.pad ≡ feeds_one (pads_in l.sources) l.pad
