use Rattle.std.proofs.Common.{map}
use Rattle.ff_graph_links.specs.pads.Links.{pads_in}
use Rattle.ff_graph.specs.laws.Pads.{output_of}
use Rattle.ff_graph.proofs.Behind.{more_outs}
use Rattle.ff_graph.proofs.outputs.add_outs.Goals as goal

pub pads-preserved : goal.pads-preserved
pads-preserved c =
    more_outs (pads_in c.args.sources.now) c.args.labels.now c.args.filter c.pads.pad c.args.heads.now c.index-heads-pad.result (map output_of c.pads.outs.items)
    (map output_of c.add_out.new.outs.items) _ c.pads-test.true c.index-heads-pad.is c.in_ok-add_out.ensures c.pads.invariant
