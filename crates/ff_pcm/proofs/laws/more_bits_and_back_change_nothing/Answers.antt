use Rattle.ff_pcm.proofs.DepthLaws.{at_depth-back}
use Rattle.ff_pcm.proofs.laws.more_bits_and_back_change_nothing.Goals as goal

pub returns : goal.returns
returns c = at_depth-back
