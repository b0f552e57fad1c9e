use Rattle.ff_net_threads.proofs.links.threads.rounds.Goals as goal

pub round-requires : goal.round-requires
round-requires g c = (c.requires.0, c.loop.invariant c.requires.0 c.requires.1, c.requires.2)

pub returns-in-Done : goal.returns-in-Done
returns-in-Done g c = λ ns all. c.round.ensures ns (c.loop.invariant ns all)

pub loop-preserved-in-Moved : goal.loop-preserved-in-Moved
loop-preserved-in-Moved g c = λ ns all. c.round.ensures ns (c.loop.invariant ns all)

pub loop-preserved : goal.loop-preserved
loop-preserved g c = λ ns all. c.round.ensures ns (c.loop.invariant ns all)
