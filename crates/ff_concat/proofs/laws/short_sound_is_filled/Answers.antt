use Rattle.ff_concat.specs.laws.Examples.{short_video, short_audio}
use Rattle.ff_concat.proofs.laws.short_sound_is_filled.Goals as goal

pub returns-clause-video : goal.returns-clause-video
returns-clause-video c f g sample = short_video f g sample

pub returns-clause-audio : goal.returns-clause-audio
returns-clause-audio c f g sample = short_audio f g sample
