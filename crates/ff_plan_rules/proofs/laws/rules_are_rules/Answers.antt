use Rattle.ff_plan_rules.proofs.Holds.{are_rules}
use Rattle.ff_plan_rules.proofs.laws.rules_are_rules.Goals as goal

pub returns : goal.returns
returns c = are_rules
