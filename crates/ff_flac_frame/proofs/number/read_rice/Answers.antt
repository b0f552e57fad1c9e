use Rattle.std.proofs.Common.{◌<◌, ◌-◌, ◌*◌, ◌%◌, ◌^◌, arith}
use Rattle.ff_flac_frame.proofs.number.read_rice.Goals as goal

pub zigzag_of-requires : goal.zigzag_of-requires
zigzag_of-requires c =
    let l : c.in_ok-low.low < 4294967295 - c.in_ok-q.q * 2 ^ c.args.k % 2 ^ 64 = c.in_ok-low.ensures.passed in
    omega arith
