use Rattle.std.proofs.Common.{◌≡◌, drop}
use Rattle.std.specs.List.{AllByRecursion}
use Rattle.ff_plan_layout.specs.Pads.{labelled_out, made_at}
use Rattle.ff_plan_layout.specs.laws.Limits.{HasFewPads}
use Rattle.ff_plan_layout.proofs.making.labelled_pad.Given as goal

abbrev pub invariant-loop-one : goal.invariant-loop-one
invariant-loop-one l = record {
  rest : labelled_out l.label (made_at (drop l.one-index l.made) l.graph) ≡ labelled_out l.label (made_at l.made l.graph);
  few : AllByRecursion HasFewPads (drop l.one-index l.made);
}
