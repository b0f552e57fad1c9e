use Rattle.std.proofs.Common.{◌≡◌, ◌++◌, map, drop}
use Rattle.ff_words.specs.maps.Choice.{lists}
use Rattle.ff_plan_layout.specs.Choice.{known}
use Rattle.ff_plan_layout.specs.Streams.{as_pad}
use Rattle.ff_plan_layout.proofs.choosing.shown.Given as goal

abbrev pub invariant-loop-at : goal.invariant-loop-at
invariant-loop-at l = l.pads.items ++ map as_pad (known (lists l.heads) (drop l.at-index l.refs)) ≡ map as_pad (known (lists l.heads) l.refs)
