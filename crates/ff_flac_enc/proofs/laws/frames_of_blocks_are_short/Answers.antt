use Rattle.ff_flac_enc.proofs.Short.{frames_stay_short}
use Rattle.ff_flac_enc.proofs.laws.frames_of_blocks_are_short.Goals as goal

pub returns : goal.returns
returns c = λ a number bytes block n h. frames_stay_short a number bytes block n h
