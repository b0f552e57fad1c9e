use Rattle.std.proofs.Common.{◌≤◌, ◌-◌}
use Rattle.ff_flac_subframe.proofs.rice.span.high_end.Given as goal

abbrev pub invariant-loop-high : goal.invariant-loop-high
invariant-loop-high l = record { above : l.initial.high ≤ l.high; last : l.high ≤ 31 }

abbrev pub decreases-loop-high : goal.decreases-loop-high
decreases-loop-high l = 31 - l.high
