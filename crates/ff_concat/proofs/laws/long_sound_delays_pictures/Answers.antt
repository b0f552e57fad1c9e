use Rattle.ff_concat.specs.laws.Examples.{long_video, long_audio}
use Rattle.ff_concat.proofs.laws.long_sound_delays_pictures.Goals as goal

pub returns-clause-video : goal.returns-clause-video
returns-clause-video c f g sample = long_video f g sample

pub returns-clause-audio : goal.returns-clause-audio
returns-clause-audio c f g sample = long_audio f g sample
