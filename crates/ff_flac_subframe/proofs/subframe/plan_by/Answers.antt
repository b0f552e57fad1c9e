use Rattle.std.proofs.Common.{◌≡◌, ◌*◌, ◌≤◌, min, Some, length, arith, refl}
use Rattle.std.proofs.lemmas.Nat.{mul-le}
use Rattle.ff_flac_subframe.specs.laws.Leads.{so_far}
use Rattle.ff_flac_subframe.proofs.Plans.{so_far-more, same_spellings, known_next, plan_last}
use Rattle.ff_flac_subframe.proofs.Outlooks.{bound_holds}
use Rattle.ff_flac_subframe.proofs.subframe.plan_by.Goals as goal

pub loop-order-init : goal.loop-order-init
loop-order-init c = record {
  best = known_next c.args.depth c.args.outlook.now.first c.args.samples.now c.in_ok-before.before c.in_ok-known.known c.lower-best.result c.in_ok-before.ensures
      c.in_ok-known.ensures.least c.in_ok-known.ensures.cost c.in_ok-known.ensures.fits c.lower-best.ensures.chosen;
  within = omega (arith, c.requires.outlook.first);
}

pub loop-order-preserved : goal.loop-order-preserved
loop-order-preserved c = record {
  best = same_spellings c.args.depth c.args.samples.now _ _ _ (so_far-more c.args.samples.now c.loop-order.order)
      (c.in_ok-best.ensures (so_far c.args.samples.now c.loop-order.order) c.loop-order.invariant.best);
  within = omega (arith, c.loop-order-test.true);
}

pub returns-clause-least : goal.returns-clause-least
returns-clause-least c =
    let e : c.loop-order.order ≡ min (length c.args.samples.now) 5 = omega (arith, c.loop-order.invariant.within) in
    (plan_last c.args.depth c.args.samples.now c.loop-order.order (Some c.loop-order.best) _ c.lower.result e c.loop-order.invariant.best refl refl c.lower.ensures.chosen).chosen

pub returns-clause-cost : goal.returns-clause-cost
returns-clause-cost c =
    let e : c.loop-order.order ≡ min (length c.args.samples.now) 5 = omega (arith, c.loop-order.invariant.within) in
    (plan_last c.args.depth c.args.samples.now c.loop-order.order (Some c.loop-order.best) _ c.lower.result e c.loop-order.invariant.best refl refl c.lower.ensures.chosen).cost

pub returns-clause-fits : goal.returns-clause-fits
returns-clause-fits c =
    let e : c.loop-order.order ≡ min (length c.args.samples.now) 5 = omega (arith, c.loop-order.invariant.within) in
    (plan_last c.args.depth c.args.samples.now c.loop-order.order (Some c.loop-order.best) _ c.lower.result e c.loop-order.invariant.best refl refl c.lower.ensures.chosen).fits

pub returns-clause-small : goal.returns-clause-small
returns-clause-small c =
    let most : c.args.depth * length c.args.samples.now ≤ 25 * 4096 = mul-le c.args.depth (length c.args.samples.now) 25 4096 c.requires.depth c.requires.len in
    omega (arith, c.lower.ensures.small, most)

pub returns-clause-bound : goal.returns-clause-bound
returns-clause-bound c =
    let e : c.loop-order.order ≡ min (length c.args.samples.now) 5 = omega (arith, c.loop-order.invariant.within) in
    let best =
    plan_last c.args.depth c.args.samples.now c.loop-order.order (Some c.loop-order.best) _ c.lower.result e c.loop-order.invariant.best
    refl refl c.lower.ensures.chosen in
    bound_holds c.args.depth c.args.outlook.now.bound c.args.samples.now c.lower.result c.requires.outlook.bound best.chosen best.cost
