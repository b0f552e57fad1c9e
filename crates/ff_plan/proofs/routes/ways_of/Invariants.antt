use Rattle.std.proofs.Common.{◌≡◌, ◌==◌, drop}
use Rattle.std.specs.List.{find}
use Rattle.ff_plan_layout.specs.declared.layout.Laid.{Laid}
use Rattle.ff_plan.proofs.routes.ways_of.Given as goal

abbrev pub invariant-loop-graph : goal.invariant-loop-graph
invariant-loop-graph l = find (λ (x : Laid). x.graph == l.number) (drop l.graph-index l.graphs) ≡ find (λ (x : Laid). x.graph == l.number) l.graphs
