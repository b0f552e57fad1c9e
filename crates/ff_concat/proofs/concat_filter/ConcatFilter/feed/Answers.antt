use Rattle.ff_concat.proofs.Ports.{in_there}
use Rattle.ff_concat.proofs.concat_filter.ConcatFilter.feed.Goals as goal

pub take_in-requires-clause-there : goal.take_in-requires-clause-there
take_in-requires-clause-there c = in_there c.args.self.now c.args.port c.requires.there
