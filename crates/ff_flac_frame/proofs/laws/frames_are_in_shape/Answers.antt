use Rattle.ff_flac_frame.proofs.LawLemmas.{in_shape}
use Rattle.ff_flac_frame.proofs.laws.frames_are_in_shape.Goals as goal

pub returns : goal.returns
returns c = in_shape
