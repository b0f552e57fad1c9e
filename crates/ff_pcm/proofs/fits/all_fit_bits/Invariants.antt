use Rattle.std.proofs.Common.{ℕ, ℤ, ◌<◌, All, IsTrue, get_or}
use Rattle.ff_frame.specs.Audio.{FitsBits}
use Rattle.ff_pcm.proofs.fits.all_fit_bits.Given as goal

abbrev pub invariant-loop-sample : goal.invariant-loop-sample
invariant-loop-sample l = record {
  yes : IsTrue l.fits → (k : ℕ) (d : ℤ) → k < l.sample-index → FitsBits l.bits (get_or l.samples k d);
  no : All (FitsBits l.bits) l.samples → IsTrue l.fits;
}
