use Rattle.ff_vfilter.proofs.TrimSound.{trim_sound, lasting_sound}
use Rattle.ff_vfilter.proofs.laws.pictures_kept_are_sound.Goals as goal

pub returns-clause-range : goal.returns-clause-range
returns-clause-range c lane range = trim_sound lane range

pub returns-clause-lasting : goal.returns-clause-lasting
returns-clause-lasting c lane range ticks = lasting_sound lane range ticks
