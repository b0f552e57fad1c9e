use Rattle.std.proofs.Common.{ℕ, pos, ◌<◌}
use Rattle.std.specs.Prelude.{IsTrue, slice_index_or}
use Rattle.ff_frame.specs.Audio.{FitsBits}
use Rattle.ff_flac_frame.specs.Prediction.{AllInDepth}
use Rattle.ff_flac_dec.proofs.depth.all_fit.Given as goal

abbrev pub invariant-loop-sample : goal.invariant-loop-sample
invariant-loop-sample l = record {
  fit : IsTrue l.all → (k : ℕ) → k < l.sample-index → FitsBits l.depth (slice_index_or l.samples k (pos 0));
  all : AllInDepth l.depth l.samples → IsTrue l.all;
}
