use Rattle.ff_flac_enc.proofs.pair.planned_alone.Goals as goal

pub planned-requires-clause-known : goal.planned-requires-clause-known
planned-requires-clause-known c = c.seen.ensures c.args.depth c.args.xs.now c.in_ok-outlook.ensures
