use Rattle.ff_flac_frame.proofs.LawLemmas.{apart}
use Rattle.ff_flac_frame.proofs.laws.frames_are_apart.Goals as goal

pub returns : goal.returns
returns c = apart
