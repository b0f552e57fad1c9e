use Rattle.std.proofs.Common.{arith}
use Rattle.ff_graph_dag.specs.laws.Graphs.{no_wire}
use Rattle.ff_graph_dag.specs.laws.Readings.{at_is}
use Rattle.ff_graph_dag.proofs.Carrying.{input_there, source_there, out_there}
use Rattle.ff_graph_dag.proofs.Halting.{cut_fine}
use Rattle.ff_graph_dag.proofs.Sweeps.{swept_needed, swept_halted}
use Rattle.ff_graph_dag.proofs.graph.Graph.halt.Goals as goal

pub needs-requires : goal.needs-requires
needs-requires g c = record {
  there = input_there g.F.Filter.view c.args.self.now.plan c.args.self.now.places.items c.args.wire c.index.result.now c.requires
      (at_is c.args.self.now.plan.wires.items c.args.wire _ no_wire c.index.result.now c.requires c.index.ensures) c.args.self.now.sound _ c.index-2.result.now c.index-2.ensures;
}

pub index_mut-requires : goal.index_mut-requires
index_mut-requires g c = let lt = source_there g.F.Filter.view c.args.self.now.plan c.args.self.now.places.items c.args.wire c.index.result.now c.requires
    (at_is c.args.self.now.plan.wires.items c.args.wire _ no_wire c.index.result.now c.requires c.index.ensures) c.args.self.now.sound c.in-Some.from c.in-Some.is in omega (arith, lt)

pub stop-requires : goal.stop-requires
stop-requires g c = out_there g.F.Filter.view c.args.self.now.plan c.args.self.now.places.items c.args.wire c.index.result.now c.requires
    (at_is c.args.self.now.plan.wires.items c.args.wire _ no_wire c.index.result.now c.requires c.index.ensures) c.args.self.now.sound c.in-Some.from _ c.index_mut.result.now c.in-Some.is c.index_mut.ensures.value

pub invariant_of-self : goal.invariant_of-self
invariant_of-self g c = record {
  sound = (cut_fine g.F.Filter.view g.met.F.Filter.grows g.met.F.Filter.quiet c.args.self.now.plan c.args.self.now.places.items c.args.wire c.index.result.now c.requires
      (at_is c.args.self.now.plan.wires.items c.args.wire _ no_wire c.index.result.now c.requires c.index.ensures) c.args.self.now.sound c.in-Some.from c.in-Some.is _
      c.index_mut.result.now c.stop.new.self _ c.index-2.result.now c.index_mut.ensures.value c.stop.ensures c.index-2.ensures
      (c.needs.ensures.decided c.if-needs.false)).sound;
}

pub returns-clause-same : goal.returns-clause-same
returns-clause-same g c = (cut_fine g.F.Filter.view g.met.F.Filter.grows g.met.F.Filter.quiet c.args.self.now.plan c.args.self.now.places.items c.args.wire c.index.result.now c.requires
    (at_is c.args.self.now.plan.wires.items c.args.wire _ no_wire c.index.result.now c.requires c.index.ensures) c.args.self.now.sound c.in-Some.from c.in-Some.is _
    c.index_mut.result.now c.stop.new.self _ c.index-2.result.now c.index_mut.ensures.value c.stop.ensures c.index-2.ensures
    (c.needs.ensures.decided c.if-needs.false)).same

pub returns-then-needs-clause-swept : goal.returns-then-needs-clause-swept
returns-then-needs-clause-swept g c = swept_needed g.F.Filter.view g.F.Filter.spends c.args.self.now.plan c.args.self.now.places.items c.args.wire c.index.result.now c.requires
    (at_is c.args.self.now.plan.wires.items c.args.wire _ no_wire c.index.result.now c.requires c.index.ensures) c.args.self.now.sound _ c.index-2.result.now c.index-2.ensures
    c.needs.result c.if-needs.true c.needs.ensures.spends

pub returns-clause-swept : goal.returns-clause-swept
returns-clause-swept g c = swept_halted g.F.Filter.view g.F.Filter.spends c.args.self.now.plan c.args.self.now.places.items c.args.wire c.index.result.now c.requires
    (at_is c.args.self.now.plan.wires.items c.args.wire _ no_wire c.index.result.now c.requires c.index.ensures) c.args.self.now.sound c.in-Some.from c.in-Some.is _
    c.index_mut.result.now c.stop.new.self c.index_mut.ensures.value c.stop.ensures
