use Rattle.ff_filter.proofs.Stepping.{took}
use Rattle.ff_filter.proofs.stepper.StepperFilter.pull.Goals as goal

pub returns-clause-gives : goal.returns-clause-gives
returns-clause-gives g c x e =
    let old = c.args.self.now in
    let o = c.take.new.self in
    took (g.T.Step.lane_in old.step) (g.T.Step.lane_out old.step) (g.T.Step.runs old.step) old.outlet.queue.items o.queue.items old.outlet.ended o.ended old.outlet.stopped o.stopped old.after old.shut c.args._port x
    c.requires.there (c.take.ensures.gives x (cc (e))) c.take.ensures.stopped
