use Rattle.std.proofs.Common.{◌≡◌, ◌++◌, ◌+◌, drop}
use Rattle.ff_plan_layout.specs.Sources.{source_streams}
use Rattle.ff_plan_layout.proofs.sources.source_streams.Given as goal

abbrev pub invariant-loop-number : goal.invariant-loop-number
invariant-loop-number l = l.streams.items ++ source_streams (l.inputs + l.number) (drop l.number l.made) ≡ source_streams l.inputs l.made
