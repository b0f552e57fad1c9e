use Rattle.ff_node_sync.proofs.Lawful.{shortest_lawful}
use Rattle.ff_node_sync.proofs.laws.shortened_streams_are_lawful.Goals as goal

pub returns : goal.returns
returns c hs v s = shortest_lawful hs v s
