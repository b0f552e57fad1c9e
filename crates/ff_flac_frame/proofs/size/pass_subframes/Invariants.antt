use Rattle.std.proofs.Common.{◌≡◌, drop}
use Rattle.ff_flac_frame.specs.Frame.{subframes}
use Rattle.ff_flac_frame.specs.laws.Passed.{passed}
use Rattle.ff_flac_frame.proofs.size.pass_subframes.Given as goal

abbrev pub invariant-loop-depth : goal.invariant-loop-depth
invariant-loop-depth l = passed (subframes l.block (drop l.depth-index l.depths)) l.reader ≡ passed (subframes l.block l.depths) l.fn.reader
