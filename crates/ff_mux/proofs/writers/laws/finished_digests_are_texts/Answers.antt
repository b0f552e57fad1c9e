use Rattle.ff_mux.proofs.WritersLemmas.FinishedLaws.{digests_are_texts}
use Rattle.ff_mux.proofs.writers.laws.finished_digests_are_texts.Goals as goal

pub returns : goal.returns
returns c = digests_are_texts
