use Rattle.ff_graph_dag.specs.laws.Graphs.{no_wire}
use Rattle.ff_graph_dag.specs.laws.Readings.{at_is}
use Rattle.ff_graph_dag.proofs.Carrying.{held_there, ready, fed_or_kept, fed_or_kept_same, fed_empty}
use Rattle.ff_graph_dag.proofs.graph.Graph.make_room.Goals as goal

pub deliver-requires-clause-there : goal.deliver-requires-clause-there
deliver-requires-clause-there g c = held_there g.F.Filter.view c.args.self.now.plan c.args.self.now.places.items c.args.wire c.index.result.now c.requires
    (at_is c.args.self.now.plan.wires.items c.args.wire _ no_wire c.index.result.now c.requires c.index.ensures) c.args.self.now.sound _ c.index_mut.result.now
    c.index_mut.ensures.value

pub deliver-requires-clause-ready : goal.deliver-requires-clause-ready
deliver-requires-clause-ready g c = ready g.F.Filter.view c.args.self.now.plan c.args.self.now.places.items c.args.wire c.index.result.now c.requires
    (at_is c.args.self.now.plan.wires.items c.args.wire _ no_wire c.index.result.now c.requires c.index.ensures) c.args.self.now.sound _ c.index_mut.result.now
    c.index_mut.ensures.value

pub invariant_of-self : goal.invariant_of-self
invariant_of-self g c = record {
  sound = fed_or_kept g.F.Filter.view c.args.self.now.plan c.args.self.now.places.items c.args.wire c.index.result.now c.requires
      (at_is c.args.self.now.plan.wires.items c.args.wire _ no_wire c.index.result.now c.requires c.index.ensures) c.args.self.now.sound _ c.index_mut.result.now
      c.deliver.new.self c.deliver.result c.index_mut.ensures.value c.deliver.ensures.delivered c.deliver.ensures.unchanged;
}

pub returns-clause-same : goal.returns-clause-same
returns-clause-same g c = fed_or_kept_same g.F.Filter.view c.args.self.now.plan c.args.self.now.places.items c.args.wire c.index.result.now c.requires
    (at_is c.args.self.now.plan.wires.items c.args.wire _ no_wire c.index.result.now c.requires c.index.ensures) c.args.self.now.sound _ c.index_mut.result.now
    c.deliver.new.self c.deliver.result c.index_mut.ensures.value c.deliver.ensures.delivered c.deliver.ensures.unchanged

pub returns-clause-empty : goal.returns-clause-empty
returns-clause-empty g c = fed_empty g.F.Filter.view c.args.self.now.plan c.args.self.now.places.items c.args.wire c.index.result.now c.requires
    (at_is c.args.self.now.plan.wires.items c.args.wire _ no_wire c.index.result.now c.requires c.index.ensures) c.args.self.now.sound _ c.index_mut.result.now
    c.deliver.new.self c.deliver.result c.index_mut.ensures.value c.deliver.ensures.delivered
