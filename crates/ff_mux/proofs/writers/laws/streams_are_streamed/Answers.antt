use Rattle.ff_mux.proofs.WritersLemmas.StreamLaws.{streams_are_streamed}
use Rattle.ff_mux.proofs.writers.laws.streams_are_streamed.Goals as goal

pub returns : goal.returns
returns c = streams_are_streamed
