use Rattle.std.proofs.Common.{◌≡◌, ◌-◌, ◌++◌}
use Rattle.ff_graph_links.specs.pads.Links.{seen, all_seen, sources_up, sources_of}
use Rattle.ff_graph_links.proofs.pads.sourcing.sources_at.Given as goal

abbrev pub invariant-pads : goal.invariant-pads
invariant-pads l = l.pads.items ++ sources_up (all_seen l.drawn) l.filter (seen l.own) l.pad (l.own.inputs - l.pad) ≡ sources_of (all_seen l.drawn) l.filter (seen l.own)
