use Rattle.std.proofs.Common.{◌≡◌, ◌+◌, ◌*◌, ◌≤◌, length, arith, subst, true}
use Rattle.std.proofs.lemmas.Nat.{mul-le}
use Rattle.ff_flac_subframe.specs.rice.Rice.{is_allowed}
use Rattle.ff_flac_subframe.proofs.Plans.{least-fixed_of, cost-fixed, count_us}
use Rattle.ff_flac_subframe.proofs.subframe.fixed_plan.Goals as goal

pub best_coding-requires-clause-len : goal.best_coding-requires-clause-len
best_coding-requires-clause-len c = omega (arith, count_us c.args.order c.args.samples.now c.args.us.now c.requires.is, c.requires.len)

pub best_coding-requires-clause-some : goal.best_coding-requires-clause-some
best_coding-requires-clause-some c = omega (arith, count_us c.args.order c.args.samples.now c.args.us.now c.requires.is, c.requires.longer)

pub returns-clause-least : goal.returns-clause-least
returns-clause-least c =
    least-fixed_of c.args.depth c.args.order c.in_ok-found.found.method c.in_ok-found.found.partition_order c.args.samples.now c.args.us.now (omega (arith, c.requires.longer))
    c.requires.is c.in_ok-found.ensures.least

pub returns-clause-cost : goal.returns-clause-cost
returns-clause-cost c =
    cost-fixed c.args.depth c.args.order c.in_ok-found.found.method c.in_ok-found.found.partition_order c.in_ok-found.found.cost c.args.samples.now c.args.us.now (omega (arith, c.requires.longer))
    c.requires.is c.in_ok-found.ensures.cost

pub returns-clause-fits : goal.returns-clause-fits
returns-clause-fits c =
    let n : length c.args.us.now + c.args.order ≡ length c.args.samples.now = omega (arith, count_us c.args.order c.args.samples.now c.args.us.now c.requires.is, c.requires.longer) in (
      c.requires.longer,
      c.requires.order,
      c.in_ok-found.ensures.method,
      c.in_ok-found.ensures.partition_order,
      subst (λ m. is_allowed m c.args.order c.in_ok-found.found.partition_order ≡ true) n c.in_ok-found.ensures.allowed,
    )

pub returns-clause-small : goal.returns-clause-small
returns-clause-small c =
    let warm : c.args.depth * c.args.order ≤ 25 * 4 = mul-le c.args.depth c.args.order 25 4 c.requires.depth c.requires.order in
    omega (arith, c.in_ok-found.ensures.small, warm)
