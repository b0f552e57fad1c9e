use Rattle.ff_flac_subframe.proofs.RiceLemmas.LeastLemmas.{first_least}
use Rattle.ff_flac_enc.specs.Frame.{candidates, subframe_bits_of}
use Rattle.ff_flac_enc.proofs.laws.least_is_the_first_of_the_shortest.Goals as goal

pub returns : goal.returns
returns c = λ a y h. first_least (subframe_bits_of a) (candidates a) y h
