use Rattle.std.proofs.Common.{Some, Ok, length, ap, ◌∙◌, arith}
use Rattle.ff_flac_subframe.specs.Subframe.{fixed_of}
use Rattle.ff_flac_subframe.proofs.Plans.{floor_stays, plan_next}
use Rattle.ff_flac_subframe.proofs.subframe.with_order.Goals as goal

pub returns-then-best-floor : goal.returns-then-best-floor
returns-then-best-floor c = floor_stays c.args.depth c.args.order c.args.floor c.args.samples.now c.args.best c.if-best-floor.true c.requires.floor

pub returns-in-None : goal.returns-in-None
returns-in-None c =
    floor_stays c.args.depth c.args.order c.args.best.cost c.args.samples.now c.args.best (omega arith)
    (c.plan_below.ensures.none (c.in_ok-plan_below.was ∙ ap (λ o. Ok o) c.in-None.is))

pub returns-in-Some : goal.returns-in-Some
returns-in-Some c = λ spellings h.
    let was = c.in_ok-plan_below.was ∙ ap (λ o. Ok o) c.in-Some.is in
    plan_next c.args.depth c.args.samples.now spellings (fixed_of (length c.args.samples.now) c.args.order) (Some c.args.best) c.in-Some.new c.lower.result
    h (c.plan_below.ensures.least c.in-Some.new was) (c.plan_below.ensures.cost c.in-Some.new was) (c.plan_below.ensures.fits c.in-Some.new was) c.lower.ensures.chosen
