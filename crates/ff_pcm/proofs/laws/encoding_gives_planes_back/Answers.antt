use Rattle.ff_pcm.proofs.RawLaws.{planes_back}
use Rattle.ff_pcm.proofs.laws.encoding_gives_planes_back.Goals as goal

pub returns : goal.returns
returns c = planes_back
