use Rattle.std.proofs.Common.{◌∙◌}
use Rattle.ff_graph_dag.specs.laws.Graphs.{no_port}
use Rattle.ff_graph_dag.specs.laws.Readings.{at_is}
use Rattle.ff_graph_dag.proofs.Giving.{stopped_is}
use Rattle.ff_graph_dag.proofs.graph.Graph.is_stopped.Goals as goal

pub returns : goal.returns
returns g c = c.is_stopped.ensures ∙ stopped_is g.F.Filter.view c.args.self.now.plan c.args.self.now.places.items c.args.port c.index-pad.result.now c.requires
    (at_is c.args.self.now.plan.pads.items c.args.port _ no_port c.index-pad.result.now c.requires c.index-pad.ensures) c.args.self.now.sound _ c.index.result.now
    c.index.ensures
