use Rattle.std.proofs.Common.{◌≤◌, ◌/◌, arith, rules}
use Rattle.ff_pcm.proofs.FitLaws.{blocks_there}
use Rattle.ff_pcm.proofs.fits.are_blocks.Goals as goal

pub returns : goal.returns
returns c =
    let some : 1 ≤ c.args.count / c.args.block = omega (arith, c.if-blocks-eq0.false) in
    (λ t. blocks_there c.args.count c.args.block c.if-count-block-ne0.false some c.if-blocks-gt65535.false, λ a. search rules)
