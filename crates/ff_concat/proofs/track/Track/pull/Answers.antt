use Rattle.ff_concat.proofs.Draws.{then_gave, then_waits}
use Rattle.ff_concat.proofs.track.Track.pull.Goals as goal

pub returns-clause-gives : goal.returns-clause-gives
returns-clause-gives c x e =
    then_gave c.args.ticks.now c.args.number c.args.self.now c.turn_on.new.self c.draw.new.self c.args.reaches.now x c.turn_on.ensures.goes_on (c.draw.ensures.gives x e)

pub returns-clause-waits : goal.returns-clause-waits
returns-clause-waits c e =
    then_waits c.args.ticks.now c.args.number c.args.self.now c.turn_on.new.self c.draw.new.self c.args.reaches.now c.turn_on.ensures.goes_on (c.draw.ensures.waits e)
