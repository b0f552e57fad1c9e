use Rattle.std.proofs.Common.{refl}
use Rattle.ff_vfilter.proofs.fps.FpsSettingsSettings.set.Goals as goal

pub returns-in-None-clause-not_taken : goal.returns-in-None-clause-not_taken
returns-in-None-clause-not_taken c e s h = c.in-None.ensures.none refl s.base h
