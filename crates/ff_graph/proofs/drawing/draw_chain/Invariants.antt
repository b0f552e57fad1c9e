use Rattle.std.proofs.Common.{◌≡◌, ◌++◌, drop, map, false}
use Rattle.ff_graph_links.specs.pads.Links.{seen}
use Rattle.ff_graph.specs.Drawings.{seen_chain}
use Rattle.ff_graph.proofs.drawing.draw_chain.Given as goal

abbrev pub invariant-filters : goal.invariant-filters
invariant-filters l = map seen l.drawn.items ++ seen_chain l.follows (drop l.i l.filters) ≡ map seen l.fn.drawn.items ++ seen_chain false l.filters
