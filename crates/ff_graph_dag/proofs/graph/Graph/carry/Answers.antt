use Rattle.std.proofs.Common.{arith, sym, ◌∙◌}
use Rattle.ff_graph_dag.specs.laws.Graphs.{no_wire}
use Rattle.ff_graph_dag.specs.laws.Readings.{at_is}
use Rattle.ff_graph_dag.proofs.Carrying.{filter_there, held_there, ready, source_there, out_there, kept_fine, kept_all, fed_fine, fed_less, drawn_fine}
use Rattle.ff_graph_dag.proofs.Carrying.{drawn_fewer, store_there, held_none, waited, some_there, fed_or_kept}
use Rattle.ff_graph_dag.proofs.graph.Graph.carry.Goals as goal

pub holds-requires : goal.holds-requires
holds-requires g c = held_there g.F.Filter.view c.args.self.now.plan c.args.self.now.places.items c.args.wire c.index.result.now c.requires
    (at_is c.args.self.now.plan.wires.items c.args.wire _ no_wire c.index.result.now c.requires c.index.ensures) c.args.self.now.sound _ c.index-2.result.now
    c.index-2.ensures

pub deliver-requires-clause-there : goal.deliver-requires-clause-there
deliver-requires-clause-there g c = held_there g.F.Filter.view c.args.self.now.plan c.args.self.now.places.items c.args.wire c.index.result.now c.requires
    (at_is c.args.self.now.plan.wires.items c.args.wire _ no_wire c.index.result.now c.requires c.index.ensures) c.args.self.now.sound _ c.index_mut.result.now
    c.index_mut.ensures.value

pub deliver-requires-clause-ready : goal.deliver-requires-clause-ready
deliver-requires-clause-ready g c = ready g.F.Filter.view c.args.self.now.plan c.args.self.now.places.items c.args.wire c.index.result.now c.requires
    (at_is c.args.self.now.plan.wires.items c.args.wire _ no_wire c.index.result.now c.requires c.index.ensures) c.args.self.now.sound _ c.index_mut.result.now
    c.index_mut.ensures.value

pub invariant_of-self : goal.invariant_of-self
invariant_of-self g c = record {
  sound = fed_or_kept g.F.Filter.view c.args.self.now.plan c.args.self.now.places.items c.args.wire c.index.result.now c.requires
      (at_is c.args.self.now.plan.wires.items c.args.wire _ no_wire c.index.result.now c.requires c.index.ensures) c.args.self.now.sound _ c.index_mut.result.now
      c.deliver.new.self c.deliver.result c.index_mut.ensures.value c.deliver.ensures.delivered c.deliver.ensures.unchanged;
}

pub returns-in-Ok-clause-same : goal.returns-in-Ok-clause-same
returns-in-Ok-clause-same g c = (fed_fine g.F.Filter.view c.args.self.now.plan c.args.self.now.places.items c.args.wire c.index.result.now c.requires
    (at_is c.args.self.now.plan.wires.items c.args.wire _ no_wire c.index.result.now c.requires c.index.ensures) c.args.self.now.sound _ c.index_mut.result.now
    c.deliver.new.self c.index_mut.ensures.value c.in-Ok.ensures.delivered).same

pub returns-in-Ok-clause-shrinks : goal.returns-in-Ok-clause-shrinks
returns-in-Ok-clause-shrinks g c e = fed_less g.F.Filter.view c.args.self.now.plan c.args.self.now.places.items c.args.wire c.index.result.now c.requires
    (at_is c.args.self.now.plan.wires.items c.args.wire _ no_wire c.index.result.now c.requires c.index.ensures) c.args.self.now.sound _ c.index_mut.result.now
    c.deliver.new.self c.index_mut.ensures.value c.in-Ok.ensures.delivered (some_there g.F.Filter.view c.args.self.now.plan c.args.self.now.places.items c.args.wire
    c.index.result.now c.requires (at_is c.args.self.now.plan.wires.items c.args.wire _ no_wire c.index.result.now c.requires c.index.ensures) c.args.self.now.sound _ _
    c.index-2.result.now c.index_mut.result.now c.index-2.ensures c.index_mut.ensures.value (sym c.holds.ensures ∙ c.if-holds.true))

pub returns-in-Err-clause-same : goal.returns-in-Err-clause-same
returns-in-Err-clause-same g c = (kept_fine g.F.Filter.view c.args.self.now.plan c.args.self.now.places.items c.args.wire c.index.result.now c.requires
    (at_is c.args.self.now.plan.wires.items c.args.wire _ no_wire c.index.result.now c.requires c.index.ensures) c.args.self.now.sound c.index.result.now.to.filter _
    c.index_mut.result.now c.deliver.new.self (filter_there g.F.Filter.view c.args.self.now.plan c.args.self.now.places.items c.args.wire c.index.result.now c.requires
    (at_is c.args.self.now.plan.wires.items c.args.wire _ no_wire c.index.result.now c.requires c.index.ensures) c.args.self.now.sound) c.index_mut.ensures.value
    c.in-Err.ensures.unchanged).same

pub index_mut-requires-in-Some : goal.index_mut-requires-in-Some
index_mut-requires-in-Some g c = let lt = (source_there g.F.Filter.view c.args.self.now.plan c.args.self.now.places.items c.args.wire c.index.result.now c.requires
    (at_is c.args.self.now.plan.wires.items c.args.wire _ no_wire c.index.result.now c.requires c.index.ensures) c.args.self.now.sound c.in-Some.from c.in-Some.is) in
    omega (arith, lt)

pub pull-requires : goal.pull-requires
pull-requires g c = record {
  there = out_there g.F.Filter.view c.args.self.now.plan c.args.self.now.places.items c.args.wire c.index.result.now c.requires
      (at_is c.args.self.now.plan.wires.items c.args.wire _ no_wire c.index.result.now c.requires c.index.ensures) c.args.self.now.sound c.in-Some.from _
      c.index_mut-in-Some.result.now c.in-Some.is c.index_mut-in-Some.ensures.value;
}

pub invariant_of-self-in-Err-pull : goal.invariant_of-self-in-Err-pull
invariant_of-self-in-Err-pull g c = record {
  sound = (kept_fine g.F.Filter.view c.args.self.now.plan c.args.self.now.places.items c.args.wire c.index.result.now
      c.requires (at_is c.args.self.now.plan.wires.items c.args.wire _ no_wire c.index.result.now c.requires c.index.ensures) c.args.self.now.sound
      c.in-Some.from.filter
      _ c.index_mut-in-Some.result.now c.pull.new.self (source_there g.F.Filter.view c.args.self.now.plan c.args.self.now.places.items c.args.wire c.index.result.now
      c.requires (at_is c.args.self.now.plan.wires.items c.args.wire _ no_wire c.index.result.now c.requires c.index.ensures) c.args.self.now.sound c.in-Some.from
      c.in-Some.is) c.index_mut-in-Some.ensures.value c.in-Err-pull.ensures.unchanged).sound;
}

pub invariant_of-self-in-Ok-None : goal.invariant_of-self-in-Ok-None
invariant_of-self-in-Ok-None g c = record {
  sound = (kept_fine g.F.Filter.view c.args.self.now.plan c.args.self.now.places.items c.args.wire c.index.result.now
      c.requires (at_is c.args.self.now.plan.wires.items c.args.wire _ no_wire c.index.result.now c.requires c.index.ensures) c.args.self.now.sound
      c.in-Some.from.filter
      _ c.index_mut-in-Some.result.now c.pull.new.self (source_there g.F.Filter.view c.args.self.now.plan c.args.self.now.places.items c.args.wire c.index.result.now
      c.requires (at_is c.args.self.now.plan.wires.items c.args.wire _ no_wire c.index.result.now c.requires c.index.ensures) c.args.self.now.sound c.in-Some.from
      c.in-Some.is) c.index_mut-in-Some.ensures.value (c.pull.ensures.waits (cc (c.in-Ok-None.is, c.in-Ok-None.field-0-is))).0).sound;
}

pub index_mut-requires-in-Ok-Some : goal.index_mut-requires-in-Ok-Some
index_mut-requires-in-Ok-Some g c = let lt = filter_there g.F.Filter.view c.args.self.now.plan c.args.self.now.places.items c.args.wire c.index.result.now c.requires
    (at_is c.args.self.now.plan.wires.items c.args.wire _ no_wire c.index.result.now c.requires c.index.ensures) c.args.self.now.sound in omega (arith, lt)

pub store-requires : goal.store-requires
store-requires g c = store_there g.F.Filter.view c.args.self.now.plan c.args.self.now.places.items c.args.wire c.index.result.now c.requires
    (at_is c.args.self.now.plan.wires.items c.args.wire _ no_wire c.index.result.now c.requires c.index.ensures) c.args.self.now.sound c.in-Some.from c.pull.new.self
    c.index_mut-in-Ok-Some.result.now c.in-Some.is c.index_mut-in-Ok-Some.ensures.value

pub invariant_of-self-in-Ok-Some : goal.invariant_of-self-in-Ok-Some
invariant_of-self-in-Ok-Some g c = record {
  sound = (drawn_fine g.F.Filter.view c.args.self.now.plan c.args.self.now.places.items c.args.wire c.index.result.now
      c.requires (at_is c.args.self.now.plan.wires.items c.args.wire _ no_wire c.index.result.now c.requires c.index.ensures) c.args.self.now.sound c.in-Some.from
      c.pull.new.self c.index_mut-in-Ok-Some.result.now c.in-Some.is c.index_mut-in-Ok-Some.ensures.value _ c.index_mut-in-Some.result.now c.store.new.self
      c.in-Ok-Some.item c.index_mut-in-Some.ensures.value (c.pull.ensures.gives c.in-Ok-Some.item (cc (c.in-Ok-Some.is, c.in-Ok-Some.field-0-is)))
      (held_none g.F.Filter.view c.args.self.now.plan c.args.self.now.places.items c.args.wire c.index.result.now c.requires
      (at_is c.args.self.now.plan.wires.items c.args.wire _ no_wire c.index.result.now c.requires c.index.ensures) c.args.self.now.sound _ c.index-2.result.now
      c.index-2.ensures (sym c.holds.ensures ∙ c.if-holds.false)) c.store.ensures.filter c.store.ensures.held).sound;
}

pub returns-in-Err-pull-clause-same : goal.returns-in-Err-pull-clause-same
returns-in-Err-pull-clause-same g c = (kept_fine g.F.Filter.view c.args.self.now.plan c.args.self.now.places.items c.args.wire c.index.result.now c.requires
    (at_is c.args.self.now.plan.wires.items c.args.wire _ no_wire c.index.result.now c.requires c.index.ensures) c.args.self.now.sound c.in-Some.from.filter _
    c.index_mut-in-Some.result.now c.pull.new.self (source_there g.F.Filter.view c.args.self.now.plan c.args.self.now.places.items c.args.wire c.index.result.now
    c.requires (at_is c.args.self.now.plan.wires.items c.args.wire _ no_wire c.index.result.now c.requires c.index.ensures) c.args.self.now.sound c.in-Some.from
    c.in-Some.is) c.index_mut-in-Some.ensures.value c.in-Err-pull.ensures.unchanged).same

pub returns-in-Ok-None-clause-same : goal.returns-in-Ok-None-clause-same
returns-in-Ok-None-clause-same g c = (kept_fine g.F.Filter.view c.args.self.now.plan c.args.self.now.places.items c.args.wire c.index.result.now c.requires
    (at_is c.args.self.now.plan.wires.items c.args.wire _ no_wire c.index.result.now c.requires c.index.ensures) c.args.self.now.sound c.in-Some.from.filter _
    c.index_mut-in-Some.result.now c.pull.new.self (source_there g.F.Filter.view c.args.self.now.plan c.args.self.now.places.items c.args.wire c.index.result.now
    c.requires (at_is c.args.self.now.plan.wires.items c.args.wire _ no_wire c.index.result.now c.requires c.index.ensures) c.args.self.now.sound c.in-Some.from
    c.in-Some.is) c.index_mut-in-Some.ensures.value (c.pull.ensures.waits (cc (c.in-Ok-None.is, c.in-Ok-None.field-0-is))).0).same

pub returns-in-Ok-None-clause-empty : goal.returns-in-Ok-None-clause-empty
returns-in-Ok-None-clause-empty g c e = (
  kept_all g.F.Filter.view c.args.self.now.plan c.args.self.now.places.items c.args.wire c.index.result.now c.requires
      (at_is c.args.self.now.plan.wires.items c.args.wire _ no_wire c.index.result.now c.requires c.index.ensures) c.args.self.now.sound c.in-Some.from.filter _
      c.index_mut-in-Some.result.now c.pull.new.self (source_there g.F.Filter.view c.args.self.now.plan c.args.self.now.places.items c.args.wire c.index.result.now
      c.requires (at_is c.args.self.now.plan.wires.items c.args.wire _ no_wire c.index.result.now c.requires c.index.ensures) c.args.self.now.sound c.in-Some.from
      c.in-Some.is) c.index_mut-in-Some.ensures.value (c.pull.ensures.waits (cc (c.in-Ok-None.is, c.in-Ok-None.field-0-is))).0,
  waited g.F.Filter.view
      c.args.self.now.plan c.args.self.now.places.items c.args.wire c.index.result.now c.requires (at_is c.args.self.now.plan.wires.items c.args.wire _ no_wire
      c.index.result.now c.requires c.index.ensures) c.args.self.now.sound c.in-Some.from _ c.index_mut-in-Some.result.now c.pull.new.self c.in-Some.is
      c.index_mut-in-Some.ensures.value (c.pull.ensures.waits (cc (c.in-Ok-None.is, c.in-Ok-None.field-0-is))).0
      (c.pull.ensures.waits (cc (c.in-Ok-None.is, c.in-Ok-None.field-0-is))).1 (held_none g.F.Filter.view c.args.self.now.plan c.args.self.now.places.items c.args.wire
      c.index.result.now c.requires (at_is c.args.self.now.plan.wires.items c.args.wire _ no_wire c.index.result.now c.requires c.index.ensures) c.args.self.now.sound _
      c.index-2.result.now c.index-2.ensures (sym c.holds.ensures ∙ c.if-holds.false)),
)

pub returns-in-Ok-Some-clause-same : goal.returns-in-Ok-Some-clause-same
returns-in-Ok-Some-clause-same g c = (drawn_fine g.F.Filter.view c.args.self.now.plan c.args.self.now.places.items c.args.wire c.index.result.now c.requires
    (at_is c.args.self.now.plan.wires.items c.args.wire _ no_wire c.index.result.now c.requires c.index.ensures) c.args.self.now.sound c.in-Some.from c.pull.new.self
    c.index_mut-in-Ok-Some.result.now c.in-Some.is c.index_mut-in-Ok-Some.ensures.value _ c.index_mut-in-Some.result.now c.store.new.self c.in-Ok-Some.item
    c.index_mut-in-Some.ensures.value (c.pull.ensures.gives c.in-Ok-Some.item (cc (c.in-Ok-Some.is, c.in-Ok-Some.field-0-is)))
    (held_none g.F.Filter.view c.args.self.now.plan c.args.self.now.places.items c.args.wire c.index.result.now c.requires
    (at_is c.args.self.now.plan.wires.items c.args.wire _ no_wire c.index.result.now c.requires c.index.ensures) c.args.self.now.sound _ c.index-2.result.now
    c.index-2.ensures (sym c.holds.ensures ∙ c.if-holds.false)) c.store.ensures.filter c.store.ensures.held).same

pub returns-in-Ok-Some-clause-shrinks : goal.returns-in-Ok-Some-clause-shrinks
returns-in-Ok-Some-clause-shrinks g c e = drawn_fewer g.F.Filter.view c.args.self.now.plan c.args.self.now.places.items c.args.wire c.index.result.now c.requires
    (at_is c.args.self.now.plan.wires.items c.args.wire _ no_wire c.index.result.now c.requires c.index.ensures) c.args.self.now.sound c.in-Some.from c.pull.new.self
    c.index_mut-in-Ok-Some.result.now c.in-Some.is c.index_mut-in-Ok-Some.ensures.value _ c.index_mut-in-Some.result.now c.store.new.self c.in-Ok-Some.item
    c.index_mut-in-Some.ensures.value (c.pull.ensures.gives c.in-Ok-Some.item (cc (c.in-Ok-Some.is, c.in-Ok-Some.field-0-is)))
    (held_none g.F.Filter.view c.args.self.now.plan c.args.self.now.places.items c.args.wire c.index.result.now c.requires
    (at_is c.args.self.now.plan.wires.items c.args.wire _ no_wire c.index.result.now c.requires c.index.ensures) c.args.self.now.sound _ c.index-2.result.now
    c.index-2.ensures (sym c.holds.ensures ∙ c.if-holds.false)) c.store.ensures.filter c.store.ensures.held
