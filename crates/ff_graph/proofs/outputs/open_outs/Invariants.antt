use Rattle.std.proofs.Common.{◌≡◌, ◌++◌, drop, map}
use Rattle.ff_graph_links.specs.pads.Links.{all_seen, pads_in}
use Rattle.ff_graph.specs.Configured.{outs_from}
use Rattle.ff_graph.specs.laws.Pads.{heads_in, output_of}
use Rattle.ff_graph.proofs.outputs.open_outs.Given as goal

abbrev pub invariant-filters : goal.invariant-filters
invariant-filters l =
    map output_of l.outs.items ++ outs_from (pads_in l.sources) l.filter (all_seen (drop l.filter l.drawn)) (heads_in (drop l.filter l.heads))
    ≡ outs_from (pads_in l.sources) 0 (all_seen l.drawn) (heads_in l.heads)
