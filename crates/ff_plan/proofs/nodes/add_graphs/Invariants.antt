use Rattle.std.proofs.Common.{◌≡◌, ◌++◌, map, drop}
use Rattle.ff_plan_layout.specs.declared.layout.Laid.{Laid}
use Rattle.ff_plan.specs.declared.planned.PlanNode.TheVariants as node
use Rattle.ff_plan.proofs.nodes.add_graphs.Given as goal

abbrev pub invariant-loop-graph : goal.invariant-loop-graph
invariant-loop-graph l = l.nodes.items ++ map (λ (g : Laid). node.Graph g.graph) (drop l.graph-index l.graphs) ≡ l.initial.nodes.items ++ map (λ (g : Laid). node.Graph g.graph) l.graphs
