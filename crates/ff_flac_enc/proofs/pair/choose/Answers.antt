use Rattle.ff_flac_enc.proofs.pair.choose.Goals as goal

pub loop-turn-init : goal.loop-turn-init
loop-turn-init c = c.four_seen-known.ensures c.args.bits c.args.left.now c.args.right.now c.args.mid.now c.args.side.now c.in_ok-outlooks.ensures

pub returns-in-Some : goal.returns-in-Some
returns-in-Some c = c.in-Some.ensures.is c.args.bits c.args.left.now c.args.right.now c.args.mid.now c.args.side.now c.loop-turn.invariant

pub returns : goal.returns
returns c = c.choice_of_all.ensures c.args.bits c.args.left.now c.args.right.now c.args.mid.now c.args.side.now c.in_ok-known-2.ensures.is
