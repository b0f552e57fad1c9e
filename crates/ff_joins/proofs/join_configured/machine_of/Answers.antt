use Rattle.ff_joins.proofs.JoinStarting.{join_starts}
use Rattle.ff_joins.proofs.join_configured.machine_of.Goals as goal

pub returns : goal.returns
returns c = join_starts c.args.head.now c.args.heads.now c.args.inlets.items c.requires.new
