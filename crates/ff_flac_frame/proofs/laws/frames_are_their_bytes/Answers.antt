use Rattle.ff_flac_frame.proofs.LawLemmas.{alone}
use Rattle.ff_flac_frame.proofs.laws.frames_are_their_bytes.Goals as goal

pub returns : goal.returns
returns c = alone
