use Rattle.std.proofs.Common.{◌<◌, ◌∙◌, arith}
use Rattle.ff_bits.proofs.Slices.{one_to_8}
use Rattle.ff_bits.proofs.crc.byte_to_8.Goals as goal

pub returns : goal.returns
returns c =
    let sum : c.args.sum < 256 = omega arith in
    let byte : c.args.byte < 256 = omega arith in
    c.left_by_8.ensures ∙ one_to_8 c.args.sum c.args.byte sum byte
