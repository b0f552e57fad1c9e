use Rattle.std.proofs.Common.{◌≡◌, ◌++◌, map, drop}
use Rattle.std.specs.List.{filter}
use Rattle.ff_words.specs.maps.Choice.{lists}
use Rattle.ff_plan_layout.specs.Choice.{known}
use Rattle.ff_plan_layout.specs.Streams.{as_pad, is_kept}
use Rattle.ff_plan_layout.proofs.choosing.kept.Given as goal

abbrev pub invariant-loop-at : goal.invariant-loop-at
invariant-loop-at l = l.pads.items ++ map as_pad (filter (is_kept l.out) (known (lists l.heads) (drop l.at-index l.refs))) ≡ map as_pad (filter (is_kept l.out) (known (lists l.heads) l.refs))
