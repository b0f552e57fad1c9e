use Rattle.std.proofs.Common.{◌≡◌, ◌++◌, drop}
use Rattle.ff_graph_links.specs.pads.Links.{opens_at}
use Rattle.ff_graph_links.proofs.pads.opening.add_open.Given as goal

abbrev pub invariant-inputs : goal.invariant-inputs
invariant-inputs l = l.pads.items ++ opens_at l.filter l.pad (drop l.pad l.sources) ≡ l.initial.pads.items ++ opens_at l.filter 0 l.sources
