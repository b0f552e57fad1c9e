use Rattle.ff_flac_subframe.proofs.RiceLemmas.ReadsRice.{codings_read}
use Rattle.ff_flac_subframe.proofs.rice.laws.codings_are_read_back.Goals as goal

pub returns : goal.returns
returns c = λ order xs h. codings_read order xs h
