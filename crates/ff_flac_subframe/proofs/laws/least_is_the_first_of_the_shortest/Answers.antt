use Rattle.ff_flac_subframe.proofs.RiceLemmas.LeastLemmas.{first_least}
use Rattle.ff_flac_subframe.specs.Subframe.{candidates}
use Rattle.ff_flac_subframe.specs.laws.Plan.{size}
use Rattle.ff_flac_subframe.proofs.laws.least_is_the_first_of_the_shortest.Goals as goal

pub returns : goal.returns
returns c = λ depth xs s h. first_least (size depth xs) (candidates xs) s h
