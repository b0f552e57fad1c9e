use Rattle.ff_y4m.proofs.NumberLaws.{base_is}
use Rattle.ff_y4m.proofs.laws.rates_are_in_lowest_terms.Goals as goal

pub returns : goal.returns
returns c = base_is
