use Rattle.std.proofs.Common.{◌≡◌, ◌++◌, drop, map}
use Rattle.ff_graph_links.specs.pads.Links.{pads_in}
use Rattle.ff_graph.specs.Configured.{outs_at}
use Rattle.ff_graph.specs.laws.Pads.{output_of}
use Rattle.ff_graph.proofs.outputs.add_outs.Given as goal

abbrev pub invariant-pads : goal.invariant-pads
invariant-pads l =
    map output_of l.outs.items ++ outs_at (pads_in l.sources) l.labels l.filter l.pad (drop l.pad l.heads)
    ≡ map output_of l.initial.outs.items ++ outs_at (pads_in l.sources) l.labels l.filter 0 l.heads
