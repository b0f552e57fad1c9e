use Rattle.std.proofs.Common.{◌≡◌, ◌++◌, drop}
use Rattle.ff_plan_layout.specs.Pads.{unlabelled_from}
use Rattle.ff_plan_layout.proofs.making.add_unlabelled.Given as goal

abbrev pub invariant-loop-pad : goal.invariant-loop-pad
invariant-loop-pad l = l.pads.items ++ unlabelled_from l.graph l.pad (drop l.pad l.outs) ≡ l.initial.pads.items ++ unlabelled_from l.graph 0 l.outs
