use Rattle.std.proofs.Common.{◌≡◌, ◌-◌}
use Rattle.ff_bits.specs.Reading.{times}
use Rattle.ff_flac_frame.specs.Frame.{sample}
use Rattle.ff_flac_frame.specs.laws.Passed.{passed}
use Rattle.ff_flac_frame.proofs.passing.pass_samples.Given as goal

abbrev pub invariant-loop-i : goal.invariant-loop-i
invariant-loop-i l = passed (times (l.count - l.i) (sample l.depth)) l.reader ≡ passed (times l.count (sample l.depth)) l.fn.reader
