use Rattle.ff_node_filter.proofs.BestLemmas.Firsts.{first_of, one_first, stays}
use Rattle.ff_node_filter.proofs.best.laws.the_best_input_is_the_first.Goals as goal

pub returns-clause-first : goal.returns-clause-first
returns-clause-first c = first_of

pub returns-clause-one : goal.returns-clause-one
returns-clause-one c = one_first

pub returns-clause-stays : goal.returns-clause-stays
returns-clause-stays c = stays
