use Rattle.std.proofs.Common.{◌∙◌}
use Rattle.ff_graph_dag.specs.laws.Graphs.{no_port}
use Rattle.ff_graph_dag.specs.laws.Readings.{at_is}
use Rattle.ff_graph_dag.proofs.Giving.{pad_wanted, pad_any, pad_gave, pad_kept, pad_err, pad_quiet}
use Rattle.ff_graph_dag.proofs.graph.Graph.give.Goals as goal

pub invariant_of-self : goal.invariant_of-self
invariant_of-self g c = record {
  sound = pad_any g.F.Filter.view c.args.self.now.plan c.args.self.now.places.items c.args.port c.index-pad.result.now c.requires.there
      (at_is c.args.self.now.plan.pads.items c.args.port _ no_port c.index-pad.result.now c.requires.there c.index-pad.ensures) c.args.self.now.sound _
      c.index_mut.result.now c.pull.new.self c.pull.result c.index_mut.ensures.value c.pull.ensures.gives (λ e. (c.pull.ensures.waits e).0) c.pull.ensures.unchanged;
}

pub returns-clause-gives : goal.returns-clause-gives
returns-clause-gives g c x e = pad_gave g.F.Filter.view c.args.self.now.plan c.args.self.now.places.items c.args.port c.index-pad.result.now c.requires.there
    (at_is c.args.self.now.plan.pads.items c.args.port _ no_port c.index-pad.result.now c.requires.there c.index-pad.ensures) c.args.self.now.sound _
    c.index_mut.result.now c.pull.new.self x c.index_mut.ensures.value (c.pull.ensures.gives x e)

pub returns-clause-waits : goal.returns-clause-waits
returns-clause-waits g c e = (
  (pad_kept g.F.Filter.view c.args.self.now.plan c.args.self.now.places.items c.args.port c.index-pad.result.now c.requires.there
      (at_is c.args.self.now.plan.pads.items c.args.port _ no_port c.index-pad.result.now c.requires.there c.index-pad.ensures) c.args.self.now.sound _
      c.index_mut.result.now c.pull.new.self c.index_mut.ensures.value (c.pull.ensures.waits e).0).1,
  pad_quiet g.F.Filter.view c.args.self.now.plan
      c.args.self.now.places.items c.args.port c.index-pad.result.now c.requires.there (at_is c.args.self.now.plan.pads.items c.args.port _ no_port
      c.index-pad.result.now
      c.requires.there c.index-pad.ensures) c.args.self.now.sound c.pull.new.self
      ((c.pull.ensures.waits e).1 ((c.pull.ensures.waits e).0.alike.stopped c.index-pad.result.now.port ∙ pad_wanted g.F.Filter.view c.args.self.now.plan
      c.args.self.now.places.items c.args.port c.index-pad.result.now c.requires.there (at_is c.args.self.now.plan.pads.items c.args.port _ no_port
      c.index-pad.result.now c.requires.there c.index-pad.ensures) c.args.self.now.sound _ c.index_mut.result.now c.index_mut.ensures.value c.requires.wanted)),
)

pub returns-clause-same : goal.returns-clause-same
returns-clause-same g c e = (pad_kept g.F.Filter.view c.args.self.now.plan c.args.self.now.places.items c.args.port c.index-pad.result.now c.requires.there
    (at_is c.args.self.now.plan.pads.items c.args.port _ no_port c.index-pad.result.now c.requires.there c.index-pad.ensures) c.args.self.now.sound _
    c.index_mut.result.now c.pull.new.self c.index_mut.ensures.value (c.pull.ensures.waits e).0).2

pub returns-clause-unchanged : goal.returns-clause-unchanged
returns-clause-unchanged g c = pad_err g.F.Filter.view c.args.self.now.plan c.args.self.now.places.items c.args.port c.index-pad.result.now c.requires.there
    (at_is c.args.self.now.plan.pads.items c.args.port _ no_port c.index-pad.result.now c.requires.there c.index-pad.ensures) c.args.self.now.sound _
    c.index_mut.result.now c.pull.new.self c.pull.result c.index_mut.ensures.value c.pull.ensures.unchanged
