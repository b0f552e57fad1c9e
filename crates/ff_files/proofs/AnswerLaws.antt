-- The answers of a reader that decides the head of its bytes, whatever follows, are those that an input's head is read by.
use Rattle.std.proofs.Common.{◌≡◌, ℕ, Bool, true, false, List, [], ◌++◌, Result, Ok, Err, refl, sym, ap, ◌∙◌, append-nil}
use Rattle.ff_frame.specs.declared.cut.HeadEnd.{HeadEnd}
use Rattle.ff_frame.specs.declared.cut.HeadEnd.TheVariants as head_end
use Rattle.ff_reader.specs.declared.fault.HeadFault.TheVariants.{Damaged, Unsupported}
use Rattle.ff_reader.specs.Heads.{Found, answered}
use Rattle.ff_files.specs.Heads.{Decide, Answers}

module _ {H : Type 0} (head : List ℕ → Found H) where
  same_found : (a b : Found H) → answered a ≡ answered b → a ≡ b
  same_found (Ok x) (Ok y) e = cc
  same_found (Ok x) (Err (Damaged p)) e = absurd cc
  same_found (Ok x) (Err (Unsupported p)) e = absurd cc
  same_found (Err (Damaged p)) (Ok y) e = absurd cc
  same_found (Err (Damaged p)) (Err (Damaged q)) e = cc
  same_found (Err (Damaged p)) (Err (Unsupported q)) e = absurd cc
  same_found (Err (Unsupported p)) (Ok y) e = absurd cc
  same_found (Err (Unsupported p)) (Err (Damaged q)) e = absurd cc
  same_found (Err (Unsupported p)) (Err (Unsupported q)) e = cc

  decides : (whole : Bool) (bytes : List ℕ) (found : Found H) → answered found ≡ answered (head bytes) → (whole ≡ false → (more : List ℕ) → head (bytes ++ more) ≡ head bytes) → Decide head whole bytes found
  decides true bytes found d s = λ more rest. ap head (ap (λ (l : List ℕ). bytes ++ l) (rest refl) ∙ append-nil bytes) ∙ sym (same_found found (head bytes) d)
  decides false bytes found d s = λ more rest. s refl more ∙ sym (same_found found (head bytes) d)

  pub answers_of : (whole : Bool) (bytes : List ℕ) (answer : Result H HeadEnd) → (answer ≡ Err head_end.NotYet → whole ≡ false) → ((answer ≡ Err head_end.NotYet → ⊥) → answer ≡ answered (head bytes))
      → ((answer ≡ Err head_end.NotYet → ⊥) → whole ≡ false → (more : List ℕ) → head (bytes ++ more) ≡ head bytes) → Answers head whole bytes answer
  answers_of whole bytes (Ok h) n d s = decides whole bytes (Ok h) (d (λ x. cc)) (s (λ x. cc))
  answers_of whole bytes (Err head_end.NotYet) n d s = n refl
  answers_of whole bytes (Err (head_end.Damaged offset)) n d s = decides whole bytes (Err (Damaged offset)) (d (λ x. cc)) (s (λ x. cc))
  answers_of whole bytes (Err (head_end.Unsupported offset)) n d s = decides whole bytes (Err (Unsupported offset)) (d (λ x. cc)) (s (λ x. cc))
  answers_of whole bytes (Err head_end.NoMemory) n d s = tt
