use Rattle.ff_mux.proofs.WritersLemmas.FinishedLaws.{flacs_are_streams}
use Rattle.ff_mux.proofs.writers.laws.finished_flacs_are_streams.Goals as goal

pub returns : goal.returns
returns c = flacs_are_streams
