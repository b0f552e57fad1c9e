use Rattle.std.proofs.Common.{◌≡◌}
use Rattle.ff_bits.specs.Reading.{times}
use Rattle.ff_flac_frame.specs.Frame.{rice}
use Rattle.ff_flac_frame.specs.laws.Passed.{passed}
use Rattle.ff_flac_frame.proofs.passing.pass_rices.Given as goal

abbrev pub invariant-loop-left : goal.invariant-loop-left
invariant-loop-left l = passed (times l.left (rice l.k)) l.near ≡ passed (times l.count (rice l.k)) l.fn.reader

abbrev pub decreases-loop-left : goal.decreases-loop-left
decreases-loop-left l = l.left
