use Rattle.ff_node_sync.proofs.Straightening.{straight_new}
use Rattle.ff_node_sync.proofs.straight.Straight.new.Goals as goal

pub returns : goal.returns
returns c = record { new = straight_new c.args.heads.now c.in_ok-sides.sides.items c.in_ok-sides.ensures.new }
