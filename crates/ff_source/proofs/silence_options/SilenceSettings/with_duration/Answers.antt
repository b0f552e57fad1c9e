use Rattle.std.proofs.Common.{refl}
use Rattle.ff_source.proofs.silence_options.SilenceSettings.with_duration.Goals as goal

pub returns-in-None-clause-none : goal.returns-in-None-clause-none
returns-in-None-clause-none c e t h = c.in-None.ensures.none refl h.0.us h.1
