use Rattle.std.proofs.Common.{◌∙◌}
use Rattle.ff_flac_subframe.proofs.Plans.{magnitudes}
use Rattle.ff_flac_subframe.proofs.subframe.plan_by_order.Goals as goal

pub zigzags_by-requires-clause-small : goal.zigzags_by-requires-clause-small
zigzags_by-requires-clause-small c = magnitudes c.args.samples.now c.requires.fits

pub fixed_plan-requires-clause-is : goal.fixed_plan-requires-clause-is
fixed_plan-requires-clause-is c = c.deref.ensures.value ∙ c.in_ok-us.ensures
