use Rattle.std.proofs.Common.{rules, ◌≡◌, refl}
use Rattle.ff_filter.specs.declared.after.After.TheVariants.{More}
use Rattle.ff_filter.proofs.Stepping.{stepped}
use Rattle.ff_filter.proofs.stepper.Stepper.step_on.Goals as goal

pub returns-in-Ok-clause-fed : goal.returns-in-Ok-clause-fed
returns-in-Ok-clause-fed g c =
    let old = c.args.self.now in
    let new = c.step.new.self in
    let o = c.put_any.new.self in
    let going : old.after ≡ More = search rules in
    stepped (g.T.Step.lane_in old.step) (g.T.Step.lane_in new) (g.T.Step.lane_out old.step) (g.T.Step.lane_out new) (g.T.Step.runs old.step) (g.T.Step.runs new)
    old.outlet.queue.items o.queue.items old.outlet.ended o.ended old.outlet.stopped o.stopped old.after c.in-Ok.given.after old.shut old.shut c.args.item c.in-Ok.given.item
    c.in-Ok.ensures.lane_in c.in-Ok.ensures.lane_out c.in-Ok.ensures.made going (search rules) (search rules) (search rules) refl c.requires.goes_on
