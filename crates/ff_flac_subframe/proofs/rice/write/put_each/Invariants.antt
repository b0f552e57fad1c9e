use Rattle.std.proofs.Common.{◌≡◌, ◌++◌, take}
use Rattle.std.specs.List.{flat_map}
use Rattle.ff_flac_subframe.specs.rice.Rice.{rice_bits}
use Rattle.ff_flac_subframe.proofs.rice.write.put_each.Given as goal

abbrev pub invariant-loop-u : goal.invariant-loop-u
invariant-loop-u l = l.out ≡ l.initial.out ++ flat_map (rice_bits l.k) (take l.u-index l.us)
