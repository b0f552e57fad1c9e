use Rattle.ff_node_sync.proofs.Breaking.{closes_with_shortest}
use Rattle.ff_node_sync.proofs.laws.shortened_streams_end_with_the_shortest.Goals as goal

pub returns : goal.returns
returns c n base ss p q before after item is all lt ne w e = closes_with_shortest n base ss p q before after item is all lt ne w e
