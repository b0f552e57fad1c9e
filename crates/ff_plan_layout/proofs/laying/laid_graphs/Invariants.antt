use Rattle.std.proofs.Common.{◌≡◌, ◌++◌, map}
use Rattle.std.specs.Vec.Iter.{into_iter_items}
use Rattle.ff_plan_layout.specs.Pads.{Made}
use Rattle.ff_plan_layout.proofs.laying.laid_graphs.Given as goal

abbrev pub invariant-loop-one : goal.invariant-loop-one
invariant-loop-one l = l.graphs.items ++ map (λ (m : Made). m.laid) (into_iter_items l.one-iterator) ≡ map (λ (m : Made). m.laid) l.fn.made.items
