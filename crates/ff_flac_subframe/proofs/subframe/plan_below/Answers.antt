use Rattle.std.proofs.Common.{◌≡◌, ℕ, ◌+◌, length, Some, Ok, true, ap, ◌∙◌, subst, arith}
use Rattle.std.specs.Option.{IfSome}
use Rattle.std.proofs.lemmas.Result.{IfOk-at_ok}
use Rattle.ff_flac_subframe.specs.rice.Least.{least}
use Rattle.ff_flac_subframe.specs.rice.Rice.{is_allowed}
use Rattle.ff_flac_subframe.specs.Subframe.{fixed_of}
use Rattle.ff_flac_subframe.specs.laws.Plan.{spelling_of, size, PlanFits}
use Rattle.ff_flac_subframe.proofs.Plans.{magnitudes, count_us, floor_below, least-fixed_of, cost-fixed}
use Rattle.ff_flac_subframe.proofs.subframe.plan_below.Goals as goal

pub zigzags_by-requires-clause-small : goal.zigzags_by-requires-clause-small
zigzags_by-requires-clause-small c = magnitudes c.args.samples.now c.requires.fits

pub coding_below-requires-clause-len : goal.coding_below-requires-clause-len
coding_below-requires-clause-len c =
    omega (arith, count_us c.args.order c.args.samples.now c.deref.result.now (c.deref.ensures.value ∙ c.in_ok-us.ensures), c.requires.len)

pub coding_below-requires-clause-some : goal.coding_below-requires-clause-some
coding_below-requires-clause-some c =
    omega (arith, count_us c.args.order c.args.samples.now c.deref.result.now (c.deref.ensures.value ∙ c.in_ok-us.ensures), c.requires.longer)

pub returns-in-None-clause-none : goal.returns-in-None-clause-none
returns-in-None-clause-none c = λ none.
    floor_below c.args.depth c.args.order c.args.limit c.saturating_sub.result c.args.samples.now c.deref.result.now (omega (arith, c.requires.longer))
    (c.deref.ensures.value ∙ c.in_ok-us.ensures) c.saturating_sub.ensures
    (c.coding_below.ensures.none (c.in_ok-coding_below.was ∙ ap (λ o. Ok o) c.in-None.is))

pub returns-clause-least : goal.returns-clause-least
returns-clause-least c = λ p told.
    let depth : ℕ = c.args.depth in
    let order : ℕ = c.args.order in
    let xs = c.args.samples.now in
    let found = c.in-Some.found in
    IfOk-at_ok (λ o. IfSome o (λ p. least (size depth xs) (fixed_of (length xs) order) ≡ Some (spelling_of xs p.plan))) told
    (least-fixed_of depth order found.method found.partition_order xs c.deref.result.now (omega (arith, c.requires.longer))
    (c.deref.ensures.value ∙ c.in_ok-us.ensures) (c.coding_below.ensures.least found (c.in_ok-coding_below.was ∙ ap (λ o. Ok o) c.in-Some.is)))

pub returns-clause-cost : goal.returns-clause-cost
returns-clause-cost c = λ p told.
    let depth : ℕ = c.args.depth in
    let order : ℕ = c.args.order in
    let xs = c.args.samples.now in
    let found = c.in-Some.found in
    IfOk-at_ok (λ o. IfSome o (λ p. p.cost ≡ size depth xs (spelling_of xs p.plan))) told
    (cost-fixed depth order found.method found.partition_order found.cost xs c.deref.result.now (omega (arith, c.requires.longer))
    (c.deref.ensures.value ∙ c.in_ok-us.ensures) (c.coding_below.ensures.cost found (c.in_ok-coding_below.was ∙ ap (λ o. Ok o) c.in-Some.is)))

pub returns-clause-fits : goal.returns-clause-fits
returns-clause-fits c = λ p told.
    let order : ℕ = c.args.order in
    let xs = c.args.samples.now in
    let found = c.in-Some.found in
    let was = c.in_ok-coding_below.was ∙ ap (λ o. Ok o) c.in-Some.is in
    let n : length c.deref.result.now + order ≡ length xs =
    omega (arith, count_us order xs c.deref.result.now (c.deref.ensures.value ∙ c.in_ok-us.ensures), c.requires.longer) in
    IfOk-at_ok (λ o. IfSome o (λ p. PlanFits xs p.plan)) told (
      c.requires.longer,
      c.requires.order,
      c.coding_below.ensures.method found was,
      c.coding_below.ensures.partition_order found was,
      subst (λ m. is_allowed m order found.partition_order ≡ true) n (c.coding_below.ensures.allowed found was),
    )
