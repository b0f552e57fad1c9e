use Rattle.ff_concat.proofs.Ports.{out_there}
use Rattle.ff_concat.proofs.concat_filter.ConcatFilter.pull.Goals as goal

pub take_out-requires : goal.take_out-requires
take_out-requires c = record { there = out_there c.args.self.now c.args.port c.requires.there }
