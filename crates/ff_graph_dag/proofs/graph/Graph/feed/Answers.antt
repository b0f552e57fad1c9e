use Rattle.std.proofs.Common.{subst}
use Rattle.ff_filter.specs.Views.{Same, Fed}
use Rattle.ff_filter.proofs.Moves.{same_trans}
use Rattle.ff_graph_dag.specs.declared.graph.Plan.{Plan}
use Rattle.ff_graph_dag.specs.laws.Graphs.{graph_view, spots}
use Rattle.ff_graph_dag.proofs.Swept.{fed_same, on_ok, on_err}
use Rattle.ff_graph_dag.proofs.graph.Graph.feed.Goals as goal

pub returns-clause-fed : goal.returns-clause-fed
returns-clause-fed g c =
    let plan = c.args.self.now.plan in
    let us = graph_view plan (spots g.F.Filter.view c.args.self.now.places.items) in
    let ts = spots g.F.Filter.view c.put-fed.new.self.places.items in
    let ws = spots g.F.Filter.view c.sweep.new.self.places.items in
    let same : Same (graph_view plan ts) (graph_view plan ws) = subst (λ (q : Plan). Same (graph_view q ts) (graph_view q ws)) c.put-fed.ensures.plan c.sweep.ensures.same in
    on_ok c.put-fed.result (Fed us (graph_view plan ts) c.args.port c.args.item) (Fed us (graph_view plan ws) c.args.port c.args.item)
    (λ f. fed_same us (graph_view plan ts) (graph_view plan ws) c.args.port c.args.item f same) c.put-fed.ensures.fed

pub returns-clause-unchanged : goal.returns-clause-unchanged
returns-clause-unchanged g c =
    let plan = c.args.self.now.plan in
    let us = graph_view plan (spots g.F.Filter.view c.args.self.now.places.items) in
    let ts = spots g.F.Filter.view c.put-fed.new.self.places.items in
    let ws = spots g.F.Filter.view c.sweep.new.self.places.items in
    let same : Same (graph_view plan ts) (graph_view plan ws) = subst (λ (q : Plan). Same (graph_view q ts) (graph_view q ws)) c.put-fed.ensures.plan c.sweep.ensures.same in
    on_err c.put-fed.result (Same us (graph_view plan ts)) (Same us (graph_view plan ws))
    (λ f. same_trans us (graph_view plan ts) (graph_view plan ws) f same) c.put-fed.ensures.unchanged
