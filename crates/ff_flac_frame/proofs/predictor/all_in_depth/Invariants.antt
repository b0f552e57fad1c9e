use Rattle.std.proofs.Common.{ℕ, pos, ◌<◌}
use Rattle.std.specs.Prelude.{slice_index_or}
use Rattle.ff_frame.specs.Audio.{FitsBits}
use Rattle.ff_flac_frame.proofs.predictor.all_in_depth.Given as goal

abbrev pub invariant-loop-x : goal.invariant-loop-x
invariant-loop-x l = (k : ℕ) → k < l.x-index → FitsBits l.depth (slice_index_or l.xs k (pos 0))
