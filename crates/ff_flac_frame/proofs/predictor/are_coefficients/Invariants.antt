use Rattle.std.proofs.Common.{ℕ, pos, ◌<◌}
use Rattle.std.specs.Prelude.{slice_index_or}
use Rattle.ff_frame.specs.Audio.{FitsBits}
use Rattle.ff_flac_frame.proofs.predictor.are_coefficients.Given as goal

abbrev pub invariant-loop-c : goal.invariant-loop-c
invariant-loop-c l = (k : ℕ) → k < l.c-index → FitsBits 15 (slice_index_or l.coefs k (pos 0))
