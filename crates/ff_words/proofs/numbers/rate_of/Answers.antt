use Rattle.std.proofs.Common.{refl}
use Rattle.ff_words.proofs.numbers.rate_of.Goals as goal

pub returns-in-None : goal.returns-in-None
returns-in-None c = (refl, c.in-None.ensures.none refl)
