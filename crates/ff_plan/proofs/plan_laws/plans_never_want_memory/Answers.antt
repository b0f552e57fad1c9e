use Rattle.ff_plan.proofs.Memory.{never_memory, never_in_filters}
use Rattle.ff_plan.proofs.plan_laws.plans_never_want_memory.Goals as goal

pub returns : goal.returns
returns c = record {
  plan = λ rules job heads h. never_memory rules job heads h;
  filter = λ rules job heads g f free h. never_in_filters rules job heads g f free h;
}
