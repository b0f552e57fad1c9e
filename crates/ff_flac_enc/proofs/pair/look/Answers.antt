use Rattle.ff_flac_enc.proofs.Choice.{small_channel}
use Rattle.ff_flac_enc.proofs.pair.look.Goals as goal

pub outlook_of-requires-clause-fits : goal.outlook_of-requires-clause-fits
outlook_of-requires-clause-fits c = small_channel c.args.depth c.args.xs.now c.requires
