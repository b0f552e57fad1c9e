-- Samples that are restored while their residuals are read.
use Rattle.std.specs.Prelude.{◌≡◌, ◌≤◌, true, false, if◌then◌else◌, List, length, ℤ}
use Rattle.ff_flac_frame.specs.declared.predictor.Predictor.{Predictor}
use Rattle.ff_flac_frame.specs.declared.predictor.Restoring.{Restoring}
use Rattle.ff_flac_frame.specs.Prediction.{ago, fixed, linear, restored, AllInDepth}

-- the prediction of the next sample
abbrev pub predicted : Predictor → List ℤ → ℤ
predicted p xs = if p.is_linear then linear p.coefs.now p.shift xs else fixed p.order xs

-- a linear one of the format's
pub record IsLinear (p : Predictor) : Type 0 where
  pub order : p.order ≡ length p.coefs.now
  pub few : p.order ≤ 32
  pub shift : p.shift ≤ 15
  pub coefs : AllInDepth 15 p.coefs.now

-- it is one of the format's, and looks back no further than these samples
pub record IsPredictor (p : Predictor) (xs : List ℤ) : Type 0 where
  pub there : p.order ≤ length xs
  pub if_linear : p.is_linear ≡ true → IsLinear p
  pub if_fixed : p.is_linear ≡ false → p.order ≤ 4

-- samples that it predicts the next one from, and the last of them
pub record IsReady (p : Predictor) (samples : List ℤ) (last : ℤ) : Type 0 where
  pub sound : IsPredictor p samples
  pub within : AllInDepth 25 samples
  pub newest : last ≡ ago 1 samples

-- the samples are those that the residuals stand for behind the warm-up samples
pub record Restores (p : Predictor) (samples rest : List ℤ) : Type 0 where
  pub sound : IsPredictor p samples
  pub within : AllInDepth 25 samples
  pub total : samples ≡ restored (predicted p) p.warm.now rest

-- so they are as long as restoring is on
abbrev pub Follows : Predictor → Restoring → List ℤ → Type 0
Follows p r rest = r.is_on ≡ true → Restores p r.samples.items rest
