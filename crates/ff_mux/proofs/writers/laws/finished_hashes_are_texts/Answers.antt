use Rattle.ff_mux.proofs.WritersLemmas.FinishedLaws.{hashes_are_texts}
use Rattle.ff_mux.proofs.writers.laws.finished_hashes_are_texts.Goals as goal

pub returns : goal.returns
returns c = hashes_are_texts
