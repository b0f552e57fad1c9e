use Rattle.std.specs.Prelude.{true}
use Rattle.ff_vfilter.specs.laws.RateSeen.{seen}
use Rattle.ff_vfilter.proofs.Rating.{stopped_there}
use Rattle.ff_vfilter.proofs.rate.RateFilter.stop.Goals as goal

pub returns-clause-stopped : goal.returns-clause-stopped
returns-clause-stopped c = stopped_there (seen c.args.self.now) (seen (record c.let_go.new.self { stopped = true })) c.args._port c.requires.there c.let_go.ensures.unwanted
