use Rattle.ff_filters.proofs.Owed.{owed}
use Rattle.ff_filters.proofs.laws.filters_are_determined.Goals as goal

pub returns : goal.returns
returns c = record { made = λ name. (owed name).made; refused = λ name. (owed name).refused }
