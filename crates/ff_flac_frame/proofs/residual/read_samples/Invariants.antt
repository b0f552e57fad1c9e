use Rattle.std.proofs.Common.{◌≡◌, ◌-◌}
use Rattle.ff_bits.specs.Reading.{times}
use Rattle.ff_flac_frame.specs.Frame.{sample}
use Rattle.ff_flac_frame.specs.laws.Front.{with_front}
use Rattle.ff_flac_frame.proofs.residual.read_samples.Given as goal

abbrev pub invariant-loop-i : goal.invariant-loop-i
invariant-loop-i l = with_front l.out.items (times (l.count - l.i) (sample l.depth) l.reader) ≡ with_front l.fn.out.items (times l.count (sample l.depth) l.fn.reader)
