use Rattle.ff_mux.proofs.WritersLemmas.FinishedLaws.{raw_packets}
use Rattle.ff_mux.proofs.writers.laws.finished_raw_is_packets.Goals as goal

pub returns : goal.returns
returns c = raw_packets
