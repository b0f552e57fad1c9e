use Rattle.ff_filters.proofs.Owed.{limited}
use Rattle.ff_filters.proofs.limited.laws.configured_filters_are_limited.Goals as goal

pub returns : goal.returns
returns c = limited
