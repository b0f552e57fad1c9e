use Rattle.std.proofs.Common.{refl}
use Rattle.ff_fsync.specs.stacks.CommonBases.{common_of}
use Rattle.ff_plan_rules.proofs.examples.two_pictures.Goals as goal

pub returns : goal.returns
unfolding common_of
returns c = record { inputs = refl; stacked = refl; missing = refl }
