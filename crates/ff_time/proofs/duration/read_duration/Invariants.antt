use Rattle.std.proofs.Common.{take}
use Rattle.ff_time.proofs.Following.{Follows}
use Rattle.ff_time.proofs.duration.read_duration.Given as goal

abbrev pub invariant-loop-at : goal.invariant-loop-at
invariant-loop-at l = Follows (take l.at l.text) l.reading
