use Rattle.std.proofs.Common.{◌≡◌, ◌-◌}
use Rattle.ff_flac_frame.specs.Frame.{partitions}
use Rattle.ff_flac_frame.specs.laws.Passed.{passed}
use Rattle.ff_flac_frame.proofs.passing.pass_partitions.Given as goal

abbrev pub invariant-loop-i : goal.invariant-loop-i
invariant-loop-i l = passed (partitions (l.n - l.i) l.w l.count) l.reader ≡ passed (partitions l.n l.w l.count) l.fn.reader
