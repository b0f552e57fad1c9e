use Rattle.ff_flac_subframe.proofs.Plans.{first_small}
use Rattle.ff_flac_subframe.proofs.subframe.write_subframe.Goals as goal

pub plan_of-requires-clause-fits : goal.plan_of-requires-clause-fits
plan_of-requires-clause-fits c = first_small c.args.depth c.args.samples.now c.requires.within c.requires.fits
