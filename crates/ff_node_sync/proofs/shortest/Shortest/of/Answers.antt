use Rattle.ff_node_sync.proofs.Moving.{new_is}
use Rattle.ff_node_sync.proofs.shortest.Shortest.of.Goals as goal

pub returns : goal.returns
returns c = record { new = new_is c.args.heads.now c.in_ok-sides.sides.items c.in_ok-sides.ensures.new }
