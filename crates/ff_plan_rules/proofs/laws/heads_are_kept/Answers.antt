use Rattle.ff_plan_rules.proofs.Keeping.{keep_heads}
use Rattle.ff_plan_rules.proofs.laws.heads_are_kept.Goals as goal

pub returns : goal.returns
returns c = keep_heads
