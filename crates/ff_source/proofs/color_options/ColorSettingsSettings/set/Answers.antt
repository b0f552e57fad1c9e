use Rattle.ff_source.proofs.Making.{color_set, color_none, color_last, color_last_none}
use Rattle.ff_source.proofs.color_options.ColorSettingsSettings.set.Goals as goal

pub returns-then-option-eq0-clause-set : goal.returns-then-option-eq0-clause-set
returns-then-option-eq0-clause-set c = color_set c.args.self c.args.option 0 c.args.value.now c.with_color.result (search) c.with_color.ensures.set

pub returns-then-option-eq0-clause-not_taken : goal.returns-then-option-eq0-clause-not_taken
returns-then-option-eq0-clause-not_taken c = color_none c.args.self c.args.option 0 c.args.value.now c.with_color.result (search) c.with_color.ensures.none

pub returns-then-option-eq1-clause-set : goal.returns-then-option-eq1-clause-set
returns-then-option-eq1-clause-set c = color_set c.args.self c.args.option 1 c.args.value.now c.with_size.result (search) c.with_size.ensures.set

pub returns-then-option-eq1-clause-not_taken : goal.returns-then-option-eq1-clause-not_taken
returns-then-option-eq1-clause-not_taken c = color_none c.args.self c.args.option 1 c.args.value.now c.with_size.result (search) c.with_size.ensures.none

pub returns-then-option-eq2-clause-set : goal.returns-then-option-eq2-clause-set
returns-then-option-eq2-clause-set c = color_set c.args.self c.args.option 2 c.args.value.now c.with_rate.result (search) c.with_rate.ensures.set

pub returns-then-option-eq2-clause-not_taken : goal.returns-then-option-eq2-clause-not_taken
returns-then-option-eq2-clause-not_taken c = color_none c.args.self c.args.option 2 c.args.value.now c.with_rate.result (search) c.with_rate.ensures.none

pub returns-clause-set : goal.returns-clause-set
returns-clause-set c = color_last c.args.self c.args.option c.args.value.now c.with_duration.result (search) (search) (search) c.with_duration.ensures.set

pub returns-clause-not_taken : goal.returns-clause-not_taken
returns-clause-not_taken c = color_last_none c.args.self c.args.option c.args.value.now c.with_duration.result (search) (search) (search) c.with_duration.ensures.none
