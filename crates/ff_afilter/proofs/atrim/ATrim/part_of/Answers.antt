use Rattle.std.proofs.Common.{rules, length}
use Rattle.ff_afilter.proofs.Cutting.{samples_there}
use Rattle.ff_afilter.proofs.atrim.ATrim.part_of.Goals as goal

pub keep-requires : goal.keep-requires
keep-requires c = samples_there c.args.skip c.args.until (length c.args.frame.samples) c.args.frame.channels (search rules) c.requires.there
