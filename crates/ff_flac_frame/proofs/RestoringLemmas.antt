-- Samples that are restored while their residuals are read.
use Rattle.std.proofs.Common.{◌≡◌, ◌∙◌, ◌≤◌, ◌+◌, Bool, true, if◌then◌else◌, List, length, ◌++◌, ℤ, refl, sym, ap, arith, length-append, to_z, of_z}
use Rattle.std.specs.Int.{w64}
use Rattle.ff_flac_frame.specs.declared.predictor.Predictor.{Predictor}
use Rattle.ff_flac_frame.specs.Prediction.{ago, fixed, linear, restored, AllInDepth}
use Rattle.ff_flac_frame.specs.laws.Restoring.{predicted, IsPredictor, IsReady, Restores}
use Rattle.ff_flac_frame.proofs.PredictionLemmas.{IsSmall-last, small_same64, restored-front, restored_more}

-- some residuals more, and their samples
pub Restores-more : (p : Predictor) (samples rest more new : List ℤ) (last : ℤ) → Restores p samples rest → IsReady p new last → new ≡ restored (predicted p) samples more
    → Restores p new (rest ++ more)
Restores-more p samples rest more new last h ready new-is = record {
  sound = ready.sound;
  within = ready.within;
  total = new-is ∙ ap (λ (ys : List ℤ). restored (predicted p) ys more) h.total ∙ sym (restored_more (predicted p) p.warm.now rest more);
}

-- the last sample keeps to 64 bits
pub newest_same : (p : Predictor) (samples : List ℤ) (last : ℤ) → IsReady p samples last → to_z w64 (of_z w64 last) ≡ ago 1 samples
newest_same p samples last ready =
    let le : 25 ≤ 25 = omega arith in
    small_same64 last (IsSmall-last 25 samples last le ready.within ready.newest) ∙ ready.newest

-- further samples by a linear predictor
pub Restores-linear : (p : Predictor) (samples before rest new : List ℤ) → p.is_linear ≡ true → Restores p samples before
    → new ≡ restored (linear p.coefs.now p.shift) samples rest → AllInDepth 25 new → Restores p new (before ++ rest)
Restores-linear p samples before rest new form h new-is within =
    let f : List ℤ → ℤ = linear p.coefs.now p.shift in
    let by : Bool → List ℤ → ℤ = λ b xs. if b then f xs else fixed p.order xs in
    let front = restored-front f samples rest in
    let long : length new ≡ length samples + length front.0 = ap (λ (ys : List ℤ). length ys) (new-is ∙ front.1) ∙ length-append samples front.0 in
    let there : p.order ≤ length samples = h.sound.there in
    let sound : IsPredictor p new = record { there = omega arith; if_linear = h.sound.if_linear; if_fixed = h.sound.if_fixed } in
    Restores-more p samples before rest new (ago 1 new) h (record { sound = sound; within = within; newest = refl })
    (new-is ∙ ap (λ (b : Bool). restored (by b) samples rest) (sym form))
