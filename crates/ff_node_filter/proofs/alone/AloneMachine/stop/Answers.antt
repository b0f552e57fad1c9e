use Rattle.ff_node_filter.specs.laws.StandLaws.{stopping}
use Rattle.ff_node_filter.proofs.alone.AloneMachine.stop.Goals as goal

pub returns-clause-stopped : goal.returns-clause-stopped
returns-clause-stopped g c past s = stopping (g.F.Filter.view c.args.self.now.filter) (g.F.Filter.view c.stop.new.self) c.args.self.now.hurt c.args.self.now.long past s c.args.port c.requires c.stop.ensures.stopped
