use Rattle.ff_mux.proofs.WritersLemmas.FinishedLaws.{crcs_are_texts}
use Rattle.ff_mux.proofs.writers.laws.finished_crcs_are_texts.Goals as goal

pub returns : goal.returns
returns c = crcs_are_texts
