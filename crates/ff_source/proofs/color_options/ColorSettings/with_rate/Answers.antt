use Rattle.std.proofs.Common.{refl}
use Rattle.ff_source.proofs.color_options.ColorSettings.with_rate.Goals as goal

pub returns-in-None-clause-none : goal.returns-in-None-clause-none
returns-in-None-clause-none c e t h = c.in-None.ensures.none refl h.0 h.1
