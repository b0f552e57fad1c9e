use Rattle.std.proofs.Common.{rules}
use Rattle.ff_filter.proofs.Stepping.{spent_exact}
use Rattle.ff_filter.proofs.stepper.Stepper.is_spent.Goals as goal

pub returns-clause-exact : goal.returns-clause-exact
returns-clause-exact g c =
    let m = c.args.self.now in
    spent_exact (g.T.Step.lane_in m.step) (g.T.Step.lane_out m.step) (g.T.Step.runs m.step) m.outlet.queue.items m.outlet.ended m.outlet.stopped m.after m.shut
    m.outlet.unclosed m.closed (g.met.T.Step.waits m.step) _ (search rules)
