use Rattle.std.proofs.Common.{◌≡◌, drop}
use Rattle.std.specs.List.{find}
use Rattle.ff_plan_layout.specs.laws.Mapping.{is_unused}
use Rattle.ff_plan_layout.specs.LaidOut.{unused_of}
use Rattle.ff_plan_layout.proofs.mapping.first_unused.Given as goal

abbrev pub invariant-loop-label : goal.invariant-loop-label
invariant-loop-label l = unused_of (find (is_unused l.graphs l.outs) (drop l.label-index l.given)) ≡ unused_of (find (is_unused l.graphs l.outs) l.given)
