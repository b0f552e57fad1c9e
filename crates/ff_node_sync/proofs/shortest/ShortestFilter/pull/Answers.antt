use Rattle.std.proofs.Common.{◌∙◌, ap}
use Rattle.ff_node_sync.specs.Lines.{Line, lines_of, lanes_of}
use Rattle.ff_node_sync.proofs.Moving.{line_there, port_there, waits_ended}
use Rattle.ff_node_sync.proofs.shortest.ShortestFilter.pull.Goals as goal

pub returns-then-index-clause-waits : goal.returns-then-index-clause-waits
returns-then-index-clause-waits c e =
    let ss = c.args.self.now.sides.items in
    waits_ended (lanes_of ss) (lines_of ss) c.args.port (ap (λ (l : Line). l.ended) (line_there ss c.args.port c.index.result.now
    (port_there ss c.args.port c.requires.there) c.index.ensures) ∙ c.if-index.true)

pub pull_on-requires-clause-going : goal.pull_on-requires-clause-going
pull_on-requires-clause-going c =
    let ss = c.args.self.now.sides.items in
    ap (λ (l : Line). l.ended) (line_there ss c.args.port c.index.result.now (port_there ss c.args.port c.requires.there) c.index.ensures) ∙ c.if-index.false

pub returns-clause-gives : goal.returns-clause-gives
returns-clause-gives c x e = c.pull_on.ensures.gives x (cc (e))
