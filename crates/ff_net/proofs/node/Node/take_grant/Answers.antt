use Rattle.std.proofs.Common.{inr}
use Rattle.ff_net.proofs.Logs.{choked_after}
use Rattle.ff_net.proofs.node.Node.take_grant.Goals as goal

pub returns-in-Choked-clause-why : goal.returns-in-Choked-clause-why
returns-in-Choked-clause-why g c still = inr (inr (choked_after c.args.self.now.pass c.make_room.new.self.pass c.take_grant.new.pass c.args.source c.in-Choked.field-0 c.make_room.ensures.pass c.in-Choked.ensures))
