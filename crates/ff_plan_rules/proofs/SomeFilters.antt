-- A graph with a filter in some chain isn't empty.
use Rattle.std.proofs.Common.{◌≡◌, ℕ, zero, suc, ◌<◌, ◌≤◌, Bool, false, List, [], ◌∷◌, ◌++◌, length, sym, subst, arith, length-append}
use Rattle.std.specs.Prelude.{slice_index_or, nat_eq}
use Rattle.std.proofs.lemmas.Bool.Decides.{nat_tests}
use Rattle.ff_lang.specs.declared.graph.Chain.{Chain}
use Rattle.ff_lang.specs.declared.graph.Filter.{Filter}
use Rattle.ff_graph.specs.Drawings.{seen_chain, seen_chains}

seen_some : (follows : Bool) (fs : List Filter) → 1 ≤ length fs → 1 ≤ length (seen_chain follows fs)
seen_some follows [] some = some
seen_some follows (f ∷ fs) some = omega arith

chains_some : (cs : List Chain) (i : ℕ) (c : Chain) → i < length cs → c ≡ slice_index_or cs i c → 1 ≤ length c.filters → 1 ≤ length (seen_chains cs)
chains_some [] i c low is some = absurd (omega (arith, low))
chains_some (d ∷ ds) zero c low is some =
    let own = seen_some false d.filters (subst (λ (x : Chain). 1 ≤ length x.filters) is some) in
    omega (arith, own, length-append (seen_chain false d.filters) (seen_chains ds))
chains_some (d ∷ ds) (suc i) c low is some =
    let rest = chains_some ds i c (omega (arith, low)) is some in
    omega (arith, rest, length-append (seen_chain false d.filters) (seen_chains ds))

positive : (n : ℕ) → 1 ≤ n → nat_eq n 0 ≡ false
positive n some = grind (arith, nat_tests)

pub not_empty : (cs : List Chain) (i : ℕ) (c : Chain) → i < length cs → c ≡ slice_index_or cs i c → 1 ≤ length c.filters → nat_eq (length (seen_chains cs)) 0 ≡ false
not_empty cs i c low is some = positive (length (seen_chains cs)) (chains_some cs i c low is some)
