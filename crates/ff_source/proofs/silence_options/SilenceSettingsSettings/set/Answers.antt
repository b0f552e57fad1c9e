use Rattle.ff_source.proofs.Making.{silence_set, silence_none, silence_last, silence_last_none}
use Rattle.ff_source.proofs.silence_options.SilenceSettingsSettings.set.Goals as goal

pub returns-then-option-eq0-clause-set : goal.returns-then-option-eq0-clause-set
returns-then-option-eq0-clause-set c = silence_set c.args.self c.args.option 0 c.args.value.now c.with_layout.result (search) c.with_layout.ensures.set

pub returns-then-option-eq0-clause-not_taken : goal.returns-then-option-eq0-clause-not_taken
returns-then-option-eq0-clause-not_taken c = silence_none c.args.self c.args.option 0 c.args.value.now c.with_layout.result (search) c.with_layout.ensures.none

pub returns-then-option-eq1-clause-set : goal.returns-then-option-eq1-clause-set
returns-then-option-eq1-clause-set c = silence_set c.args.self c.args.option 1 c.args.value.now c.with_rate.result (search) c.with_rate.ensures.set

pub returns-then-option-eq1-clause-not_taken : goal.returns-then-option-eq1-clause-not_taken
returns-then-option-eq1-clause-not_taken c = silence_none c.args.self c.args.option 1 c.args.value.now c.with_rate.result (search) c.with_rate.ensures.none

pub returns-clause-set : goal.returns-clause-set
returns-clause-set c = silence_last c.args.self c.args.option c.args.value.now c.with_duration.result (search) (search) c.with_duration.ensures.set

pub returns-clause-not_taken : goal.returns-clause-not_taken
returns-clause-not_taken c = silence_last_none c.args.self c.args.option c.args.value.now c.with_duration.result (search) (search) c.with_duration.ensures.none
