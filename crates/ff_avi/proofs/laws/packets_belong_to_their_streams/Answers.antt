use Rattle.ff_avi.proofs.ShapedLaws.{packets_are_shaped}
use Rattle.ff_avi.proofs.laws.packets_belong_to_their_streams.Goals as goal

pub returns : goal.returns
returns c = packets_are_shaped
