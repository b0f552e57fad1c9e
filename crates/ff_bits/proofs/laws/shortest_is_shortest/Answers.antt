use Rattle.ff_bits.proofs.LawLemmas.{shortest_is_code, shortest_is_least}
use Rattle.ff_bits.proofs.laws.shortest_is_shortest.Goals as goal

pub returns : goal.returns
returns c = record { code = shortest_is_code; least = shortest_is_least }
