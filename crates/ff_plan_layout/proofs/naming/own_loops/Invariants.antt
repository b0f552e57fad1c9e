use Rattle.std.proofs.Common.{◌≡◌, ◌++◌, map, drop}
use Rattle.ff_plan_layout.proofs.naming.own_loops.Given as goal

abbrev pub invariant-loop-graph : goal.invariant-loop-graph
invariant-loop-graph g l = l.own.items ++ map (g.F.Filtering.rules l.filtering).loops (drop l.graph-index l.graphs) ≡ map (g.F.Filtering.rules l.filtering).loops l.graphs
