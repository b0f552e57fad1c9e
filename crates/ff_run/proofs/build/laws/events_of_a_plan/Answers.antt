use Rattle.ff_run.specs.build.Parts.{all_kinds}
use Rattle.ff_run.specs.laws.build.Events.{parts_tell_of_themselves}
use Rattle.ff_run_plan.proofs.EventSteps.{plans_tell_alone}
use Rattle.ff_run.proofs.build.laws.events_of_a_plan.Goals as goal

pub returns-clause-own : goal.returns-clause-own
returns-clause-own c = parts_tell_of_themselves

pub returns-clause-alone : goal.returns-clause-alone
returns-clause-alone c = plans_tell_alone all_kinds parts_tell_of_themselves
