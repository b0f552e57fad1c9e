use Rattle.ff_node_sync.proofs.Lawful.{straight_lawful}
use Rattle.ff_node_sync.proofs.laws.straight_streams_are_lawful.Goals as goal

pub returns : goal.returns
returns c hs v s = straight_lawful hs v s
