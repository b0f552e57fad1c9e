use Rattle.std.proofs.Common.{sym, ap}
use Rattle.ff_node_sync.specs.Lines.{Line}
use Rattle.ff_node_sync.proofs.Moving.{line_there, port_there}
use Rattle.ff_node_sync.proofs.straight.StraightFilter.is_stopped.Goals as goal

pub returns : goal.returns
returns c = let ss = c.args.self.now.sides.items in ap (λ (l : Line). l.stopped)
    (sym (line_there ss c.args.port c.index.result.now (port_there ss c.args.port c.requires) c.index.ensures))
