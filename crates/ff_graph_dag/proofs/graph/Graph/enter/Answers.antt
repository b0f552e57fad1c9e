use Rattle.std.proofs.Common.{ap}
use Rattle.ff_graph_dag.specs.declared.graph.Wire.{Wire}
use Rattle.ff_graph_dag.specs.laws.Graphs.{no_wire}
use Rattle.ff_graph_dag.specs.laws.Readings.{at_is}
use Rattle.ff_graph_dag.proofs.Carrying.{held_there}
use Rattle.ff_graph_dag.proofs.Entering.{put_sound, put_fed}
use Rattle.ff_graph_dag.proofs.graph.Graph.enter.Goals as goal

pub store-requires : goal.store-requires
store-requires g c = held_there g.F.Filter.view c.args.self.now.plan c.args.self.now.places.items c.args.port c.index.result.now
    (c.args.self.now.sound.framed.entries c.args.port c.requires.there).wire (at_is c.args.self.now.plan.wires.items c.args.port _ no_wire c.index.result.now
    (c.args.self.now.sound.framed.entries c.args.port c.requires.there).wire c.index.ensures) c.args.self.now.sound _ c.index_mut.result.now c.index_mut.ensures.value

pub invariant_of-self : goal.invariant_of-self
invariant_of-self g c = record {
  sound = put_sound g.F.Filter.view c.args.self.now.plan c.args.self.now.places.items c.args.port c.index.result.now.to c.requires.there
      (ap (λ (w : Wire). w.to) (at_is c.args.self.now.plan.wires.items c.args.port _ no_wire c.index.result.now
      (c.args.self.now.sound.framed.entries c.args.port c.requires.there).wire c.index.ensures)) c.args.self.now.sound _ c.index_mut.result.now c.store.new.self
      c.args.item c.index_mut.ensures.value (held_there g.F.Filter.view c.args.self.now.plan c.args.self.now.places.items c.args.port c.index.result.now
      (c.args.self.now.sound.framed.entries c.args.port c.requires.there).wire (at_is c.args.self.now.plan.wires.items c.args.port _ no_wire c.index.result.now
      (c.args.self.now.sound.framed.entries c.args.port c.requires.there).wire c.index.ensures) c.args.self.now.sound _ c.index_mut.result.now
      c.index_mut.ensures.value)
      c.requires.room c.requires.open_before c.store.ensures.filter c.store.ensures.held;
}

pub returns-clause-fed : goal.returns-clause-fed
returns-clause-fed g c = put_fed g.F.Filter.view c.args.self.now.plan c.args.self.now.places.items c.args.port c.index.result.now.to c.requires.there
    (ap (λ (w : Wire). w.to) (at_is c.args.self.now.plan.wires.items c.args.port _ no_wire c.index.result.now
    (c.args.self.now.sound.framed.entries c.args.port c.requires.there).wire c.index.ensures)) c.args.self.now.sound _ c.index_mut.result.now c.store.new.self
    c.args.item c.index_mut.ensures.value (held_there g.F.Filter.view c.args.self.now.plan c.args.self.now.places.items c.args.port c.index.result.now
    (c.args.self.now.sound.framed.entries c.args.port c.requires.there).wire (at_is c.args.self.now.plan.wires.items c.args.port _ no_wire c.index.result.now
    (c.args.self.now.sound.framed.entries c.args.port c.requires.there).wire c.index.ensures) c.args.self.now.sound _ c.index_mut.result.now c.index_mut.ensures.value)
    c.requires.room c.requires.open_before c.store.ensures.filter c.store.ensures.held
