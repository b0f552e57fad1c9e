use Rattle.std.proofs.Common.{◌≡◌, ◌++◌, map, drop}
use Rattle.ff_plan_layout.specs.declared.layout.InPad.{InPad}
use Rattle.ff_plan.proofs.origins.add_sources.Given as goal

abbrev pub invariant-loop-pad : goal.invariant-loop-pad
invariant-loop-pad l = l.origins.items ++ map (λ (i : InPad). i.source) (drop l.pad-index l.ins) ≡ l.initial.origins.items ++ map (λ (i : InPad). i.source) l.ins
