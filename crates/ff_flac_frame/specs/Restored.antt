-- What a subframe says of samples that were restored as it was read.
use Rattle.std.specs.Prelude.{◌≡◌, ℕ, List, ℤ, Bool, true}
use Rattle.std.proofs.Math.IntN.{ℤ_set}
use mathlib.Core.List.{is_set as List-set}
use Rattle.ff_flac_frame.specs.declared.subframe.SubKind.{SubKind}
use Rattle.ff_flac_frame.specs.declared.subframe.SubKind.TheVariants.{Constant, Verbatim, Fixed, Lpc}
use Rattle.ff_flac_frame.specs.Prediction.{fixed, linear, restored}

-- these are the samples that the residuals stand for behind the warm-up samples (sections 9.2.5 and 9.2.6)
abbrev pub IsRestored : SubKind → ℕ → List ℤ → ℕ → List ℤ → List ℤ → List ℤ → Type 0
IsRestored Constant order coefs shift warm rest samples = ⊥
IsRestored Verbatim order coefs shift warm rest samples = ⊥
IsRestored Fixed order coefs shift warm rest samples = samples ≡ restored (fixed order) warm rest
IsRestored Lpc order coefs shift warm rest samples = samples ≡ restored (linear coefs shift) warm rest

-- there is one proof of it at most
pub IsRestored-prop : (b : Bool) (kind : SubKind) (order : ℕ) (coefs : List ℤ) (shift : ℕ) (warm rest samples : List ℤ)
    → IsProp (b ≡ true → IsRestored kind order coefs shift warm rest samples)
IsRestored-prop b Constant order coefs shift warm rest samples = hlevel
IsRestored-prop b Verbatim order coefs shift warm rest samples = hlevel
IsRestored-prop b Fixed order coefs shift warm rest samples = hlevel (List-set ℤ_set)
IsRestored-prop b Lpc order coefs shift warm rest samples = hlevel (List-set ℤ_set)
