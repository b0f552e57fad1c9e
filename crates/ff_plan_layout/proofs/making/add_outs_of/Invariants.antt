use Rattle.std.proofs.Common.{◌≡◌, drop}
use Rattle.std.specs.List.{AllByRecursion}
use Rattle.ff_plan_layout.specs.Pads.{outs_of_made, made_at}
use Rattle.ff_plan_layout.specs.laws.Limits.{HasFewPads}
use Rattle.ff_plan_layout.proofs.making.add_outs_of.Given as goal

abbrev pub invariant-loop-one : goal.invariant-loop-one
invariant-loop-one l = record {
  rest : outs_of_made l.graph (made_at (drop l.one-index l.made) l.graph) ≡ outs_of_made l.graph (made_at l.made l.graph);
  few : AllByRecursion HasFewPads (drop l.one-index l.made);
  same : l.pads.items ≡ l.initial.pads.items;
}
