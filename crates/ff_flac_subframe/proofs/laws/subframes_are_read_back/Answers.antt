use Rattle.ff_flac_subframe.proofs.ReadsSub.{candidates_read}
use Rattle.ff_flac_subframe.proofs.laws.subframes_are_read_back.Goals as goal

pub returns : goal.returns
returns c = λ depth xs h d n f. candidates_read depth xs h d n f
