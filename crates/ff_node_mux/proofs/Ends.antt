-- Bytes that may be known, where the last step failed; and where bytes are replaced.
use Rattle.std.proofs.Common.{◌≡◌, ℕ, ◌+◌, ◌<◌, ◌≤◌, Bool, true, false, List, [], length, Option, Some, None, refl, ap, sym, ◌∙◌, subst, arith, append-nil}
use Rattle.std.specs.Prelude.{nat_le}
use Rattle.std.specs.Io.KnownBytes.{Appends, Keeps}
use Rattle.std.proofs.lemmas.Bool.Decides.{nat_tests}
use Rattle.ff_lists.specs.Appends.{AppendsPrefix}
use Rattle.ff_frame.specs.declared.totals.Totals.{Totals}
use Rattle.ff_format.specs.Layouts.{Layout, body}
use Rattle.ff_format.specs.laws.Patches.{StandsIn, IsInside}
use Rattle.ff_node_mux.specs.laws.Writing.{text_before}
use Rattle.ff_node_mux.specs.merge.Merges.{Placed}

-- they gained all, and stay so
pub front_kept : (before between now : Option (List ℕ)) (bytes : List ℕ) → Appends before between bytes → Keeps between now
    → AppendsPrefix before now bytes
front_kept None between now bytes a k = tt
front_kept (Some x) None now bytes a k = absurd a
front_kept (Some x) (Some y) None bytes a k = absurd k
front_kept (Some x) (Some y) (Some z) bytes a k = (bytes, [], sym (append-nil bytes), k ∙ a)

-- the header stands, where nothing was written before it or more than it
pub header_stands : (layout : Layout) (old now : ℕ) (begun : Bool) (before : List ℕ) → (begun ≡ true → length layout.header ≤ old)
    → before ≡ text_before begun layout → old + length before ≤ now → length layout.header ≤ now
header_stands layout old now true before room e le = let h = room refl in omega (arith, h, le)
header_stands layout old now false before room e le = omega (arith, ap length e, le)

-- what takes the place of bytes stands in what was written, where some packets were counted, of which it isn't known which
pub replaced_inside : (layout : Layout) (counts : List Placed → Type 0) (totals : Option Totals) (written : ℕ) (replaced : Option (ℕ × List ℕ))
    → (((ps : List Placed) → counts ps → ⊥) → ⊥) → length layout.header ≤ written
    → ((ps : List Placed) → counts ps → replaced ≡ layout.last (length (body layout ps)) totals) → ((n : ℕ) → IsInside layout n totals) → StandsIn replaced written
replaced_inside layout counts totals written None counted header last inside = tt
replaced_inside layout counts totals written (Some p) counted header last inside = pick (nat_le (p.0 + length p.1) written) refl
  where
    here : (ps : List Placed) → counts ps → p.0 + length p.1 ≤ length layout.header
    here ps c = subst (λ (r : Option (ℕ × List ℕ)). StandsIn r (length layout.header)) (sym (last ps c)) (inside (length (body layout ps)))

    pick : (b : Bool) → nat_le (p.0 + length p.1) written ≡ b → p.0 + length p.1 ≤ written
    pick true f = grind (arith, nat_tests)
    pick false f =
        let lt : written < p.0 + length p.1 = grind (arith, nat_tests) in
        absurd (counted (λ ps c. let h = here ps c in omega (arith, h, lt, header)))
