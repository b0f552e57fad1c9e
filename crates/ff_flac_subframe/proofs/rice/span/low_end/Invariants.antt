use Rattle.std.proofs.Common.{◌≤◌}
use Rattle.ff_flac_subframe.proofs.rice.span.low_end.Given as goal

abbrev pub invariant-loop-low : goal.invariant-loop-low
invariant-loop-low l = l.low ≤ l.initial.low

abbrev pub decreases-loop-low : goal.decreases-loop-low
decreases-loop-low l = l.low
