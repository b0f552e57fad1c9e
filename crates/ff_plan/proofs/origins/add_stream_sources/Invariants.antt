use Rattle.std.proofs.Common.{◌≡◌, ◌++◌, map, drop}
use Rattle.ff_plan_layout.specs.declared.layout.Placed.{Placed}
use Rattle.ff_plan.proofs.origins.add_stream_sources.Given as goal

abbrev pub invariant-loop-one : goal.invariant-loop-one
invariant-loop-one l = l.origins.items ++ map (λ (p : Placed). p.what.source) (drop l.one-index l.placed) ≡ l.initial.origins.items ++ map (λ (p : Placed). p.what.source) l.placed
