use Rattle.std.proofs.Common.{◌≡◌, ◌++◌, length}
use Rattle.std.specs.List.{flat_map}
use Rattle.ff_flac_subframe.specs.rice.Rice.{rice_bits}
use Rattle.ff_flac_subframe.proofs.rice.write.put_values.Given as goal

abbrev pub invariant-loop-rest : goal.invariant-loop-rest
invariant-loop-rest l = l.out ++ flat_map (rice_bits l.k) l.rest ≡ l.fn.out ++ flat_map (rice_bits l.k) l.us

abbrev pub decreases-loop-rest : goal.decreases-loop-rest
decreases-loop-rest l = length l.rest
