use Rattle.std.proofs.Common.{subst}
use Rattle.ff_filter.specs.Views.{Same}
use Rattle.ff_filter.proofs.Moves.{same_trans, gave_same}
use Rattle.ff_graph_dag.specs.declared.graph.Plan.{Plan}
use Rattle.ff_graph_dag.specs.laws.Graphs.{graph_view, spots}
use Rattle.ff_graph_dag.proofs.Swept.{on_err}
use Rattle.ff_graph_dag.proofs.graph.Graph.pull.Goals as goal

pub returns-clause-gives : goal.returns-clause-gives
returns-clause-gives g c x e =
    let plan = c.args.self.now.plan in
    let ss = spots g.F.Filter.view c.args.self.now.places.items in
    let ts = spots g.F.Filter.view c.take-given.new.self.places.items in
    let us = spots g.F.Filter.view c.sweep.new.self.places.items in
    gave_same (graph_view plan ss) (graph_view plan ts) (graph_view plan us) c.args.port x c.requires.wanted (c.take-given.ensures.gives x e)
    (subst (λ (q : Plan). Same (graph_view q ts) (graph_view q us)) c.take-given.ensures.plan c.sweep.ensures.same)

pub returns-clause-waits : goal.returns-clause-waits
returns-clause-waits g c e =
    let plan = c.args.self.now.plan in
    let ss = spots g.F.Filter.view c.args.self.now.places.items in
    let ts = spots g.F.Filter.view c.take-given.new.self.places.items in
    let us = spots g.F.Filter.view c.sweep.new.self.places.items in
    let waits = c.take-given.ensures.waits e in
    record {
      same = same_trans (graph_view plan ss) (graph_view plan ts) (graph_view plan us) waits.same
          (subst (λ (q : Plan). Same (graph_view q ts) (graph_view q us)) c.take-given.ensures.plan c.sweep.ensures.same);
      nothing_left = waits.nothing_left;
    }

pub returns-clause-unchanged : goal.returns-clause-unchanged
returns-clause-unchanged g c =
    let plan = c.args.self.now.plan in
    let ss = graph_view plan (spots g.F.Filter.view c.args.self.now.places.items) in
    let ts = spots g.F.Filter.view c.take-given.new.self.places.items in
    let us = spots g.F.Filter.view c.sweep.new.self.places.items in
    let same : Same (graph_view plan ts) (graph_view plan us) = subst (λ (q : Plan). Same (graph_view q ts) (graph_view q us)) c.take-given.ensures.plan c.sweep.ensures.same in
    on_err c.take-given.result (Same ss (graph_view plan ts)) (Same ss (graph_view plan us)) (λ f. same_trans ss (graph_view plan ts) (graph_view plan us) f same)
    c.take-given.ensures.unchanged
