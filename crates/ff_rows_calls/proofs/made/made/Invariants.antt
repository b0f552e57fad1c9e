use Rattle.std.proofs.Common.{◌<◌, ◌≤◌}
use Rattle.ff_rows_calls.proofs.made.made.Given as goal

abbrev pub invariant-loop-j : goal.invariant-loop-j
invariant-loop-j l = record { x : l.x < 2147483648; first : l.first ≤ 33554432 }
