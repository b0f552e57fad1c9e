use Rattle.ff_node_avi.proofs.PieceSteps.{was_unread}
use Rattle.ff_node_avi.proofs.ReadSteps.{lies_start}
use Rattle.ff_node_avi.proofs.reader.AviReader.new.Goals as goal

pub returns-clause-lies : goal.returns-clause-lies
returns-clause-lies g c = λ file e. lies_start (g.S.Source.left c.args.src) c.new.result c.args.head.now c.args.used.now file e c.new.ensures.goes_on c.new.ensures.cuts

pub returns-clause-unread : goal.returns-clause-unread
returns-clause-unread g c = was_unread c.new.result c.args.head.now c.args.used.now c.new.ensures.cuts
