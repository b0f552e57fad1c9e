use Rattle.std.proofs.Common.{◌≡◌, ◌++◌, drop}
use Rattle.ff_graph_links.specs.pads.Links.{all_seen}
use Rattle.ff_graph.specs.Drawings.{seen_chains}
use Rattle.ff_graph.proofs.drawing.drawn.Given as goal

abbrev pub invariant-chains : goal.invariant-chains
invariant-chains l = all_seen l.drawn.items ++ seen_chains (drop l.i l.chains) ≡ seen_chains l.chains
