use Rattle.ff_run.proofs.Told.{none_is_empty}
use Rattle.ff_run.proofs.laws.no_history_is_empty.Goals as goal

pub returns : goal.returns
returns c = none_is_empty
