use Rattle.ff_flac_enc.proofs.Choice.{small_channel}
use Rattle.ff_flac_enc.proofs.Forms.{by_plan}
use Rattle.ff_flac_enc.proofs.pair.planned.Goals as goal

pub plan_by-requires-clause-fits : goal.plan_by-requires-clause-fits
plan_by-requires-clause-fits c = small_channel c.args.depth c.args.xs.now c.requires.can

pub returns-clause-is : goal.returns-clause-is
returns-clause-is c =
    let p = c.in_ok-found.ensures in
    by_plan c.args.depth c.args.xs.now c.in_ok-found.found p.least p.cost p.fits p.small
