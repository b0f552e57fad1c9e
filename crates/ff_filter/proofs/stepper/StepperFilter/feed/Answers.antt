use Rattle.ff_filter.proofs.Stepping.{fed_there, fed_where}
use Rattle.ff_filter.proofs.stepper.StepperFilter.feed.Goals as goal

pub returns-in-Some-clause-fed : goal.returns-in-Some-clause-fed
returns-in-Some-clause-fed g c = fed_there _ _ c.args._port c.args.item c.requires.there c.close.ensures.fed

pub returns-in-None-clause-fed : goal.returns-in-None-clause-fed
returns-in-None-clause-fed g c = fed_where _ _ c.args._port c.args.item c.step_on.result c.requires.there c.step_on.ensures.fed
