use Rattle.std.proofs.Common.{◌≡◌, drop}
use Rattle.ff_words.specs.maps.Choice.{lists}
use Rattle.ff_plan_layout.specs.Choice.{known}
use Rattle.ff_plan_layout.specs.Labels.{first_known}
use Rattle.ff_plan_layout.proofs.labelled.first_known.Given as goal

abbrev pub invariant-loop-at : goal.invariant-loop-at
invariant-loop-at l = first_known (known (lists l.heads) (drop l.at-index l.refs)) ≡ first_known (known (lists l.heads) l.refs)
