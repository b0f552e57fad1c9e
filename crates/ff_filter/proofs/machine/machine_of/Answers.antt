use Rattle.ff_filter.proofs.Setting.{made_single}
use Rattle.ff_filter.proofs.machine.machine_of.Goals as goal

pub returns-in-Ok-clause-view : goal.returns-in-Ok-clause-view
returns-in-Ok-clause-view g c = made_single _ (g.T.Step.lane_in c.args.step) (g.T.Step.lane_out c.args.step) c.args.head.now (g.T.Step.runs c.args.step) c.args.after c.new-machine.ensures.view c.requires.frames
