use Rattle.std.proofs.Common.{take}
use Rattle.std.specs.List.{All}
use Rattle.ff_frame.specs.Audio.{FitsBits}
use Rattle.ff_rows_calls.proofs.residuals.all_fit.Given as goal

abbrev pub invariant-loop-x : goal.invariant-loop-x
invariant-loop-x l = All (FitsBits l.depth) (take l.x-index l.samples)
