use Rattle.std.proofs.Common.{◌≡◌, ◌++◌, map, drop}
use Rattle.ff_plan.specs.Nodes.{way_to}
use Rattle.ff_plan_layout.specs.declared.layout.Placed.{Placed}
use Rattle.ff_plan.proofs.routes.ways.Given as goal

abbrev pub invariant-loop-one : goal.invariant-loop-one
invariant-loop-one l = l.ways.items ++ map (λ (p : Placed). way_to p.what.source) (drop l.one-index l.placed) ≡ map (λ (p : Placed). way_to p.what.source) l.placed
