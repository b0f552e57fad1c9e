use Rattle.std.proofs.Common.{◌≡◌, ◌++◌, take}
use Rattle.std.specs.List.{flat_map}
use Rattle.ff_flac_subframe.specs.Subframe.{sample_bits}
use Rattle.ff_flac_subframe.proofs.samples.put_samples.Given as goal

abbrev pub invariant-loop-x : goal.invariant-loop-x
invariant-loop-x l = l.out ≡ l.fn.out ++ flat_map (sample_bits l.depth) (take l.x-index l.xs)
