use Rattle.std.proofs.Common.{◌≡◌, length}
use Rattle.std.specs.List.{All}
use Rattle.ff_frame.specs.Audio.{FitsBits}
use Rattle.ff_test_base.proofs.base.blocks.values.Given as goal

abbrev pub invariant-loop-j : goal.invariant-loop-j
invariant-loop-j l = (length l.samples.items ≡ l.j) × All (FitsBits 16) l.samples.items
