-- How few bits samples may have.
use Rattle.std.proofs.Common.{◌≡◌, ℕ, ◌+◌, ◌*◌, ◌<◌, ◌≤◌, min, true, ℤ, List, length, Some, subst, arith}
use Rattle.std.specs.Option.{IfSome}
use Rattle.std.specs.List.{AllByRecursion}
use Rattle.ff_flac_subframe.specs.rice.Least.{least}
use Rattle.ff_flac_subframe.proofs.RiceLemmas.LeastLemmas.{least_holds}
use Rattle.ff_flac_subframe.specs.declared.subframe.Planned.{Planned}
use Rattle.ff_flac_subframe.specs.Subframe.{candidates, all_are, first_or_zero}
use Rattle.ff_flac_subframe.specs.laws.Plan.{spelling_of, size}
use Rattle.ff_flac_subframe.specs.laws.Leads.{IsFloor}
use Rattle.ff_flac_subframe.proofs.ReadsSub.{all-candidates}
use Rattle.ff_flac_subframe.proofs.Plans.{size-constant, size-verbatim, lower_floor_of}

pub bound_is : (depth low floor : ℕ) (xs : List ℤ) → low ≤ 8 + depth * length xs → (all_are (first_or_zero xs) xs ≡ true → low ≤ 8 + depth) → low ≤ floor
    → ((o : ℕ) → o < min (length xs) 5 → IsFloor depth xs o floor) → AllByRecursion (λ s. low ≤ size depth xs s) (candidates xs)
bound_is depth low floor xs all one l floors =
    all-candidates (λ s. low ≤ size depth xs s) xs (λ e. omega (arith, one e, size-constant depth xs))
    (λ o few there. lower_floor_of depth o low floor xs l (floors o (omega (arith, few, there))))
    (omega (arith, all, size-verbatim depth xs))

-- no plan has fewer bits
pub bound_holds : (depth bound : ℕ) (xs : List ℤ) (p : Planned) → AllByRecursion (λ s. bound ≤ size depth xs s) (candidates xs)
    → least (size depth xs) (candidates xs) ≡ Some (spelling_of xs p.plan) → p.cost ≡ size depth xs (spelling_of xs p.plan) → bound ≤ p.cost
bound_holds depth bound xs p all chosen cost =
    let low : bound ≤ size depth xs (spelling_of xs p.plan) =
    subst (λ o. IfSome o (λ s. bound ≤ size depth xs s)) chosen (least_holds (λ s. bound ≤ size depth xs s) (size depth xs) (candidates xs) all) in
    omega (arith, low, cost)
