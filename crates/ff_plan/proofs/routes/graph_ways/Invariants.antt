use Rattle.std.proofs.Common.{◌≡◌, ◌==◌, ◌-◌, ◌++◌, map, length}
use Rattle.std.specs.List.{find, range_with_len}
use Rattle.ff_plan_layout.specs.declared.layout.Laid.{Laid}
use Rattle.ff_plan.specs.Nodes.{ways_in}
use Rattle.ff_plan.proofs.routes.graph_ways.Given as goal

abbrev pub invariant-loop-number : goal.invariant-loop-number
invariant-loop-number l =
    l.ways.items ++ map (λ g. ways_in (find (λ (x : Laid). x.graph == g) l.graphs)) (range_with_len l.number (length l.graphs - l.number))
    ≡ map (λ g. ways_in (find (λ (x : Laid). x.graph == g) l.graphs)) (range_with_len 0 (length l.graphs))
