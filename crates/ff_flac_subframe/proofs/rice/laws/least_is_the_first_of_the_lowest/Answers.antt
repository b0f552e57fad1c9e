use Rattle.ff_flac_subframe.proofs.RiceLemmas.LeastLemmas.{first_least}
use Rattle.ff_flac_subframe.proofs.rice.laws.least_is_the_first_of_the_lowest.Goals as goal

pub returns : goal.returns
returns c = λ cost xs a h. first_least cost xs a h
