use Rattle.ff_plan.proofs.Sourced.{are_asked}
use Rattle.ff_plan.proofs.plan_laws.sources_are_asked.Goals as goal

pub returns : goal.returns
returns c = are_asked
