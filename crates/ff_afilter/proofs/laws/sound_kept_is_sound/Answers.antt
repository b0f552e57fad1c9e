use Rattle.ff_afilter.proofs.TrimSound.{sound_trim_sound, sound_lasting_sound}
use Rattle.ff_afilter.proofs.laws.sound_kept_is_sound.Goals as goal

pub returns-clause-range : goal.returns-clause-range
returns-clause-range c tb rate bits channels codec range = sound_trim_sound tb rate bits channels codec range

pub returns-clause-lasting : goal.returns-clause-lasting
returns-clause-lasting c tb rate bits channels codec range ticks = sound_lasting_sound tb rate bits channels codec range ticks
