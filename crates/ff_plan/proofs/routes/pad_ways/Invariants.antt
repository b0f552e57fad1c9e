use Rattle.std.proofs.Common.{◌≡◌, ◌++◌, map, drop}
use Rattle.ff_plan_layout.specs.declared.layout.InPad.{InPad}
use Rattle.ff_plan.specs.Nodes.{way_to}
use Rattle.ff_plan.proofs.routes.pad_ways.Given as goal

abbrev pub invariant-loop-pad : goal.invariant-loop-pad
invariant-loop-pad l = l.ways.items ++ map (λ (i : InPad). way_to i.source) (drop l.pad-index l.ins) ≡ map (λ (i : InPad). way_to i.source) l.ins
