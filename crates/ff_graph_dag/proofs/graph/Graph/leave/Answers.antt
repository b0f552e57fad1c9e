use Rattle.ff_graph_dag.specs.laws.Graphs.{no_port}
use Rattle.ff_graph_dag.specs.laws.Readings.{at_is}
use Rattle.ff_graph_dag.proofs.Stopping.{end_sound, end_stopped}
use Rattle.ff_graph_dag.proofs.graph.Graph.leave.Goals as goal

pub invariant_of-self : goal.invariant_of-self
invariant_of-self g c = record {
  sound = end_sound g.F.Filter.view c.args.self.now.plan c.args.self.now.places.items c.args.port c.index-pad.result.now c.requires
      (at_is c.args.self.now.plan.pads.items c.args.port _ no_port c.index-pad.result.now c.requires c.index-pad.ensures) c.args.self.now.sound _ c.index_mut.result.now
      c.stop.new.self c.index_mut.ensures.value c.stop.ensures;
}

pub returns-clause-stopped : goal.returns-clause-stopped
returns-clause-stopped g c = end_stopped g.F.Filter.view c.args.self.now.plan c.args.self.now.places.items c.args.port c.index-pad.result.now c.requires
    (at_is c.args.self.now.plan.pads.items c.args.port _ no_port c.index-pad.result.now c.requires c.index-pad.ensures) c.args.self.now.sound _ c.index_mut.result.now
    c.stop.new.self c.index_mut.ensures.value c.stop.ensures
