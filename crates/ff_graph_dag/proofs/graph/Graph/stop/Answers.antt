use Rattle.std.proofs.Common.{subst}
use Rattle.ff_filter.specs.Views.{Same}
use Rattle.ff_graph_dag.specs.declared.graph.Plan.{Plan}
use Rattle.ff_graph_dag.specs.laws.Graphs.{graph_view, spots}
use Rattle.ff_graph_dag.proofs.Stopping.{stopped_same}
use Rattle.ff_graph_dag.proofs.graph.Graph.stop.Goals as goal

pub returns-clause-stopped : goal.returns-clause-stopped
returns-clause-stopped g c =
    let plan = c.args.self.now.plan in
    let ss = spots g.F.Filter.view c.args.self.now.places.items in
    let ts = spots g.F.Filter.view c.leave.new.self.places.items in
    let us = spots g.F.Filter.view c.sweep.new.self.places.items in
    stopped_same (graph_view plan ss) (graph_view plan ts) (graph_view plan us) c.args.port c.leave.ensures.stopped
    (subst (λ (q : Plan). Same (graph_view q ts) (graph_view q us)) c.leave.ensures.plan c.sweep.ensures.same)
