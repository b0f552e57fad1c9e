use Rattle.std.proofs.Common.{◌≡◌, ◌-◌}
use Rattle.ff_filter.specs.Views.{Same}
use Rattle.ff_graph_dag.specs.laws.Graphs.{graph_view, spots}
use Rattle.ff_graph_dag.specs.laws.Spends.{SweptFrom}
use Rattle.ff_graph_dag.proofs.graph.Graph.sweep.Given as goal

abbrev pub invariant-wires : goal.invariant-wires
invariant-wires g l = record {
  plan : l.self.plan ≡ l.fn.self.plan;
  same : Same (graph_view l.fn.self.plan (spots g.F.Filter.view l.fn.self.places.items)) (graph_view l.fn.self.plan (spots g.F.Filter.view l.self.places.items));
  swept : SweptFrom g.F.Filter.view g.F.Filter.spends l.fn.self.plan l.self.places.items (l.count - l.done);
}
