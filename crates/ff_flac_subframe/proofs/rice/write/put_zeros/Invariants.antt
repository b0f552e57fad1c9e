use Rattle.std.proofs.Common.{◌≡◌, ◌++◌, replicate, false}
use Rattle.ff_flac_subframe.proofs.rice.write.put_zeros.Given as goal

abbrev pub invariant-loop-left : goal.invariant-loop-left
invariant-loop-left l = l.out ++ replicate l.left false ≡ l.fn.out ++ replicate l.count false

abbrev pub decreases-loop-left : goal.decreases-loop-left
decreases-loop-left l = l.left
