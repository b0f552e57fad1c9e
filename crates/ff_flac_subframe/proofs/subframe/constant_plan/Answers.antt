use Rattle.std.proofs.Common.{refl}
use Rattle.ff_flac_subframe.proofs.Plans.{plan_constant, plan_none}
use Rattle.ff_flac_subframe.proofs.subframe.constant_plan.Goals as goal

pub returns-then-not-are_equal : goal.returns-then-not-are_equal
returns-then-not-are_equal c = plan_none c.args.depth c.args.samples.now c.are_equal.result c.if-not-are_equal.true c.are_equal.ensures

pub returns : goal.returns
returns c = plan_constant c.args.depth c.args.samples.now _ c.are_equal.result c.if-not-are_equal.false c.are_equal.ensures refl refl tt
