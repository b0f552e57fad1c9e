use Rattle.std.proofs.Common.{refl, arith}
use Rattle.ff_filter.proofs.LastingLemmas.Setting.{none_of_range, none_lasting}
use Rattle.ff_filter.proofs.lasting.settings.TrimSettingsSettings.set.Goals as goal

pub returns-in-None-clause-not_taken : goal.returns-in-None-clause-not_taken
returns-in-None-clause-not_taken c e s h = none_of_range c.args.self s c.args.option c.args.value.now (omega (arith, c.if-option-lt2.true)) (c.in-None.ensures.not_taken refl) h

pub returns-in-None-read_time-clause-not_taken : goal.returns-in-None-read_time-clause-not_taken
returns-in-None-read_time-clause-not_taken c e s h = none_lasting c.args.self s c.args.option c.args.value.now (omega (arith, c.if-option-lt2.false))
    (λ us t. cc ((c.in-None-read_time.ensures.value us).1 t)) h
