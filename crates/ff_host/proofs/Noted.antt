-- A number that a change of the marks under one name keeps there stays under every name.
use Rattle.std.proofs.Common.{◌≡◌, ℕ, List, Bool, true, false, subst, sym, refl, ap, ◌∙◌}
use Rattle.std.specs.Str.{bytes_eq}
use Rattle.std.proofs.lemmas.Slice.Eq.{bytes_eq-Decides}
use Rattle.ff_host.specs.laws.Tally.{Table, marks_at, Sets}
use Rattle.ff_host.specs.declared.tally.Marks.{Marks}

pub kept_count : (count : Marks → ℕ) (old new : Table) (name : List ℕ) (marks : Marks) → Sets old new name marks
    → count marks ≡ count (marks_at old name) → (other : List ℕ) → count (marks_at new other) ≡ count (marks_at old other)
kept_count count old new name marks sets same other =
    let cases : (b : Bool) → bytes_eq name other ≡ b → count (marks_at new other) ≡ count (marks_at old other) =
    λ b. elim b as (λ b. bytes_eq name other ≡ b → count (marks_at new other) ≡ count (marks_at old other)) [
      | true ↦ λ h. subst (λ x. count (marks_at new x) ≡ count (marks_at old x)) ((bytes_eq-Decides name other).0 h) (ap count sets.here ∙ same)
      | false ↦ λ h. ap count (sets.others other (λ e. let yes : bytes_eq name other ≡ true = (bytes_eq-Decides name other).1 (sym e) in cc))
    ] in
    cases (bytes_eq name other) refl
