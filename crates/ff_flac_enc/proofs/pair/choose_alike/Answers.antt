use Rattle.ff_flac_enc.proofs.pair.choose_alike.Goals as goal

pub returns : goal.returns
returns c =
    let one = c.args.one.now in
    let h = c.in_ok-one.ensures.is in
    c.choice_of_all.ensures c.args.bits one one one c.args.side.now (record { left = h; right = h; mid = h; side = c.in_ok-side.ensures.is })
