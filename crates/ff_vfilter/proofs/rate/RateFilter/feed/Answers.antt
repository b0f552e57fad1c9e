use Rattle.ff_vfilter.specs.laws.RateSeen.{seen}
use Rattle.ff_vfilter.proofs.Rating.{fed_there}
use Rattle.ff_vfilter.proofs.rate.RateFilter.feed.Goals as goal

pub returns-then-self-clause-fed : goal.returns-then-self-clause-fed
returns-then-self-clause-fed c = fed_there (seen c.args.self.now) (seen c.pass_over.new.self) c.args._port c.args.item c.requires.there c.pass_over.ensures.fed
