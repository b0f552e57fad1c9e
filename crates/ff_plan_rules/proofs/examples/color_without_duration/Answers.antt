use Rattle.std.proofs.Common.{refl}
use Rattle.ff_plan_rules.proofs.examples.color_without_duration.Goals as goal

pub returns : goal.returns
returns c = record { input = refl; fault = refl }
