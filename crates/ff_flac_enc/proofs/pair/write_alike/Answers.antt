use Rattle.std.proofs.Common.{subst}
use Rattle.ff_flac_enc.specs.laws.Choice.{IsChoice}
use Rattle.ff_flac_enc.specs.laws.Signal.{CanWrite}
use Rattle.ff_flac_enc.proofs.Forms.{mid_alike}
use Rattle.ff_flac_enc.proofs.pair.write_alike.Goals as goal

pub write_choice-requires-clause-can : goal.write_choice-requires-clause-can
write_choice-requires-clause-can c =
    let h = c.requires.left in
    record { left = h; right = subst (λ xs. CanWrite c.args.bits xs) c.requires.alike h; mid = h; side = c.requires.side }

pub write_choice-requires-clause-choice : goal.write_choice-requires-clause-choice
write_choice-requires-clause-choice c =
    subst (λ xs. IsChoice c.args.bits c.args.left.now xs c.args.left.now c.args.side.now c.in_ok-choice.choice) c.requires.alike c.in_ok-choice.ensures

pub write_choice-requires-clause-mid_is : goal.write_choice-requires-clause-mid_is
write_choice-requires-clause-mid_is c = mid_alike c.args.left.now c.args.right.now c.requires.alike
