use Rattle.std.proofs.Common.{◌≡◌, ◌+◌, ◌==◌, drop}
use Rattle.std.specs.List.{position_or_len}
use Rattle.ff_plan_layout.specs.declared.layout.Laid.{Laid}
use Rattle.ff_plan.proofs.firsts.graph_place.Given as goal

abbrev pub invariant-loop-number : goal.invariant-loop-number
invariant-loop-number l = l.number + position_or_len (λ (x : Laid). x.graph == l.graph) (drop l.number l.graphs) ≡ position_or_len (λ (x : Laid). x.graph == l.graph) l.graphs
