use Rattle.std.proofs.Common.{◌≡◌, map, drop}
use Rattle.ff_flac_frame.specs.laws.Front.{with_front}
use Rattle.ff_flac_frame.specs.Frame.{subframes}
use Rattle.ff_flac_frame.specs.laws.Parts.{part_of}
use Rattle.ff_flac_frame.proofs.frame.read_subframes.Given as goal

abbrev pub invariant-loop-depth : goal.invariant-loop-depth
invariant-loop-depth l = with_front (map part_of l.parts.items) (subframes l.block (drop l.depth-index l.depths) l.reader) ≡ subframes l.block l.depths l.fn.reader
