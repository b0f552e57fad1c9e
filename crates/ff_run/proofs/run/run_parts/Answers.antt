use Rattle.ff_run.proofs.run.run_parts.Goals as goal

pub returns : goal.returns
returns g c = c.run_plan.ensures.ran
