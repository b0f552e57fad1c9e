use Rattle.std.proofs.Common.{◌≤◌, ◌∙◌, sym, arith}
use Rattle.ff_flac_enc.proofs.HeadLemmas.{six_small}
use Rattle.ff_flac_enc.proofs.head.put_block.Goals as goal

pub put-requires : goal.put-requires
put-requires c =
    let n : c.args.block ≤ 256 = six_small c.args.block (sym c.requires.code ∙ c.if-code-eq6.true) in
    omega (arith, n)
