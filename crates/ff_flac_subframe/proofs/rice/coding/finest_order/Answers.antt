use Rattle.std.proofs.Common.{◌≡◌, suc, ◌+◌, ap, sym, ◌∙◌, arith, inl, inr, false}
use Rattle.ff_flac_subframe.specs.rice.Rice.{is_allowed}
use Rattle.ff_flac_subframe.proofs.RiceLemmas.Orders.{orders-is}
use Rattle.ff_flac_subframe.proofs.rice.coding.finest_order.Goals as goal

pub returns-then-not-allows-clause-all : goal.returns-then-not-allows-clause-all
returns-then-not-allows-clause-all c =
    let more : c.loop-partition_order.partition_order + 1 ≡ suc c.loop-partition_order.partition_order = omega arith in
    let ends : is_allowed c.args.n c.args.order (suc c.loop-partition_order.partition_order) ≡ false = ap (is_allowed c.args.n c.args.order) (sym more) ∙ sym c.allows.ensures ∙ c.if-not-allows.true in
    orders-is c.args.n c.args.order c.loop-partition_order.partition_order c.loop-partition_order.invariant.within c.loop-partition_order.invariant.allowed (inr ends)

pub returns-clause-all : goal.returns-clause-all
returns-clause-all c =
    let last : c.loop-partition_order.partition_order ≡ 8 = omega (arith, c.loop-partition_order.invariant.within) in
    orders-is c.args.n c.args.order c.loop-partition_order.partition_order c.loop-partition_order.invariant.within c.loop-partition_order.invariant.allowed (inl last)
