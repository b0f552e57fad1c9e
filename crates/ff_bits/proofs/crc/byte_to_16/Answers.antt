use Rattle.std.proofs.Common.{◌<◌, arith}
use Rattle.ff_bits.proofs.Slices.{one_to_16}
use Rattle.ff_bits.proofs.crc.byte_to_16.Goals as goal

pub returns : goal.returns
returns c =
    let sum : c.args.sum < 65536 = omega arith in
    let byte : c.args.byte < 256 = omega arith in
    one_to_16 c.args.sum c.args.byte c.left_by_16.result sum byte c.left_by_16.ensures
