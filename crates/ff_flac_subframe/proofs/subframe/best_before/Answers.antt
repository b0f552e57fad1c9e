use Rattle.std.proofs.Common.{ℕ, ◌+◌, get_or, sym, subst, Ok, ap, ◌∙◌, arith}
use Rattle.ff_flac_subframe.specs.laws.Leads.{so_far, Leads}
use Rattle.ff_flac_subframe.proofs.Plans.{leads_none, leads_more, leads_on}
use Rattle.ff_flac_subframe.proofs.subframe.best_before.Goals as goal
use Rattle.ff_flac_subframe.proofs.subframe.best_before.Goals.{then-floors-order+in_ok-new+in-Some, then-floors-order+in_ok-new+in_default, else-floors-order}

pub loop-order-init : goal.loop-order-init
loop-order-init c = leads_none c.args.depth c.args.limit c.args.samples.now c.constant_plan-best.result c.constant_plan-best.ensures

pub loop-order-preserved : goal.loop-order-preserved
loop-order-preserved c =
    let depth : ℕ = c.args.depth in
    let limit : ℕ = c.args.limit in
    let order : ℕ = c.loop-order.order in
    let xs = c.args.samples.now in
    elim c.if-floors-order.branch [
      | then-floors-order+in_ok-new+in-Some w ↦
          let was = w.in_ok-new.was ∙ ap (λ o. Ok o) w.in-Some.is in
          subst (Leads depth xs limit (so_far xs (order + 1))) (sym w.best-is)
          (leads_more depth limit order xs c.loop-order.best w.in-Some.new w.lower.result c.loop-order.invariant
          (w.plan_below.ensures.least w.in-Some.new was) (w.plan_below.ensures.cost w.in-Some.new was) (w.plan_below.ensures.fits w.in-Some.new was)
          w.lower.ensures.chosen)
      | then-floors-order+in_ok-new+in_default w ↦
          subst (Leads depth xs limit (so_far xs (order + 1))) (sym w.best-is)
          (leads_on depth limit order (limit + 1) xs c.loop-order.best (omega arith)
          (w.plan_below.ensures.none (w.in_ok-new.was ∙ ap (λ o. Ok o) w.in_default.is)) c.loop-order.invariant)
      | else-floors-order w ↦
          subst (Leads depth xs limit (so_far xs (order + 1))) (sym w.best-is)
          (leads_on depth limit order (get_or c.args.floors.now order 0) xs c.loop-order.best w.if-floors-order.false (c.requires.floors order c.loop-order-test.true) c.loop-order.invariant)
    ]
