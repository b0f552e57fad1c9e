use Rattle.std.proofs.Common.{◌≡◌, ◌+◌, ◌++◌, drop}
use Rattle.ff_plan_layout.specs.Layout.{place_row}
use Rattle.ff_plan.proofs.nodes.place_row.Given as goal

abbrev pub invariant-loop-stream : goal.invariant-loop-stream
invariant-loop-stream l = l.placed.items ++ place_row (l.first + l.stream) l.output l.stream (drop l.stream l.streams) ≡ l.initial.placed.items ++ place_row l.first l.output 0 l.streams
