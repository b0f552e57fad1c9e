use Rattle.ff_concat.proofs.Ports.{in_there}
use Rattle.ff_concat.proofs.concat_filter.ConcatFilter.spent.Goals as goal

pub is_spent-requires : goal.is_spent-requires
is_spent-requires c = in_there c.args.self.now c.args.port c.requires.there

pub returns : goal.returns
returns c = record { spends = c.is_spent.ensures.is }
