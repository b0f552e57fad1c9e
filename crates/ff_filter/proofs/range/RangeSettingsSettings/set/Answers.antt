use Rattle.std.proofs.Common.{refl}
use Rattle.ff_filter.proofs.Setting.{stop_set, none_set}
use Rattle.ff_filter.proofs.range.RangeSettingsSettings.set.Goals as goal

pub returns-in-None-clause-not_taken : goal.returns-in-None-clause-not_taken
returns-in-None-clause-not_taken c e s h = none_set c.args.self s c.args.option c.args.value.now (λ us t. cc ((c.in-None.ensures.value us).1 t)) h

pub returns-else-option-eq0-clause-set : goal.returns-else-option-eq0-clause-set
returns-else-option-eq0-clause-set c = stop_set c.args.self _ c.args.option c.in-Some.us c.args.value.now (search) refl refl ((c.in-Some.ensures.value c.in-Some.us).0 refl)
