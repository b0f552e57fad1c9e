use Rattle.std.proofs.Common.{◌≡◌, drop}
use Rattle.ff_graph_links.specs.pads.Links.{all_seen}
use Rattle.ff_graph.specs.Faults.{source_fault_from}
use Rattle.ff_graph.proofs.sources.source_fault.Given as goal

abbrev pub invariant-filters : goal.invariant-filters
invariant-filters l = source_fault_from l.at (all_seen (drop l.at l.filters.items)) ≡ source_fault_from 0 (all_seen l.filters.items)
