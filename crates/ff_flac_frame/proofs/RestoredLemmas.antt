-- Samples that were restored as a subframe was read.
use Rattle.std.proofs.Common.{◌≡◌, ℕ, ◌≤◌, Bool, true, false, if◌then◌else◌, leb, List, ◌∙◌, inl, inr}
use Rattle.std.proofs.Common.{ℤ}
use Rattle.std.proofs.lemmas.Bool.{cases_lt, le-leb, lt-leb}
use Rattle.ff_flac_frame.specs.Codes.{kind_of}
use Rattle.ff_flac_frame.specs.Prediction.{fixed, linear, restored}
use Rattle.ff_flac_frame.specs.Restored.{IsRestored}
use Rattle.ff_flac_frame.proofs.FrameSound.{kind_fixed, kind_linear}

-- samples by the predictor of a subframe of this type code
pub IsRestored-of_kind : (code : ℕ) (is_linear : Bool) (order shift : ℕ) (coefs warm rest samples : List ℤ) → 2 ≤ code → is_linear ≡ leb 32 code →
    samples ≡ restored (λ xs. if is_linear then linear coefs shift xs else fixed order xs) warm rest →
    IsRestored (kind_of code) order coefs shift warm rest samples
IsRestored-of_kind code true order shift coefs warm rest samples later form total =
    elim (cases_lt code 32) [
      | inl lt ↦ let k : true ≡ false = form ∙ lt-leb 32 code lt in cc
      | inr le ↦ rw (kind_linear code le) total
    ]
IsRestored-of_kind code false order shift coefs warm rest samples later form total =
    elim (cases_lt code 32) [
      | inl lt ↦ rw (kind_fixed code later lt) total
      | inr le ↦ let k : false ≡ true = form ∙ le-leb 32 code le in cc
    ]
