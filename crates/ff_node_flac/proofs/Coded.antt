-- Blocks coded one after another.
use Rattle.std.proofs.Common.{◌≡◌, ℕ, zero, suc, ◌+◌, ◌<◌, List, [], ◌∷◌, ◌++◌, length, refl, sym, ap, ◌∙◌, inl, inr, arith, subst}
use Rattle.std.specs.Prelude.{slice_index_or}
use Rattle.std.proofs.Math.Seq.{get_or-append_seam}
use Rattle.std.proofs.lemmas.Bool.{cases_lt}
use Rattle.std.proofs.lemmas.List.{get_or_append_left}
use Rattle.ff_frame.specs.declared.audio.AFrame.{AFrame}
use Rattle.ff_flac_enc.specs.laws.Blocks.{IsCoded}

-- a place that is there has its block, whatever stands in for one that isn't
pub at_any : (blocks : List AFrame) (k : ℕ) (d e : AFrame) → k < length blocks → slice_index_or blocks k d ≡ slice_index_or blocks k e
at_any [] k d e lt = absurd (omega arith)
at_any (b ∷ bs) zero d e lt = refl
at_any (b ∷ bs) (suc k) d e lt = at_any bs k d e (omega arith)

-- with one more
pub one_more : (blocks : List AFrame) (codes new : List (List ℕ)) (bytes : List ℕ) (block : AFrame) (first i : ℕ)
    → i < length blocks → length codes ≡ i → new ≡ codes ++ bytes ∷ [] → block ≡ slice_index_or blocks i block → IsCoded block (first + i) bytes
    → ((k : ℕ) (e : AFrame) → k < i → IsCoded (slice_index_or blocks k e) (first + k) (slice_index_or codes k []))
    → (k : ℕ) (e : AFrame) → k < i + 1 → IsCoded (slice_index_or blocks k e) (first + k) (slice_index_or new k [])
one_more blocks codes new bytes block first i within many is at one before k e lt = elim (cases_lt k i) [
  | inl less ↦
      let same : slice_index_or new k [] ≡ slice_index_or codes k [] =
      ap (λ (xs : List (List ℕ)). slice_index_or xs k []) is ∙ get_or_append_left codes (bytes ∷ []) [] k (omega (arith, less, many)) in
      subst (λ (xs : List ℕ). IsCoded (slice_index_or blocks k e) (first + k) xs) (sym same) (before k e less)
  | inr more ↦
      let here : k ≡ i = omega (arith, more, lt) in
      let place : length codes ≡ k = many ∙ sym here in
      let last : slice_index_or new k [] ≡ bytes =
      ap (λ (xs : List (List ℕ)). slice_index_or xs k []) is
      ∙ subst (λ (n : ℕ). slice_index_or (codes ++ bytes ∷ []) n [] ≡ bytes) place (get_or-append_seam codes bytes [] []) in
      let found : block ≡ slice_index_or blocks k e =
      at ∙ (at_any blocks i block e within ∙ ap (λ (n : ℕ). slice_index_or blocks n e) (sym here)) in
      subst (λ (xs : List ℕ). IsCoded (slice_index_or blocks k e) (first + k) xs) (sym last)
      (subst (λ (b : AFrame). IsCoded b (first + k) bytes) found (subst (λ (n : ℕ). IsCoded block (first + n) bytes) (sym here) one))
]
