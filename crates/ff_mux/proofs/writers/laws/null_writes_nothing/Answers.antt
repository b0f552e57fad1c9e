use Rattle.ff_mux.proofs.WritersLemmas.FinishedLaws.{null_nothing}
use Rattle.ff_mux.proofs.writers.laws.null_writes_nothing.Goals as goal

pub returns : goal.returns
returns c = null_nothing
