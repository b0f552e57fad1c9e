use Rattle.ff_node_avi.proofs.PieceSteps.{has_unread}
use Rattle.ff_node_avi.proofs.demux.AviDemux.new.Goals as goal

pub returns-clause-unread : goal.returns-clause-unread
returns-clause-unread g c = has_unread c.in-Ok.reader.cut c.in-Ok.reader.skip c.args.head.now c.args.used.now c.in-Ok.ensures.unread
