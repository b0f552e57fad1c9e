use Rattle.std.proofs.Common.{◌≤◌, ◌<◌, ◌^◌, arith}
use Rattle.std.proofs.Math.Nat.{pow-le-pow_right}
use Rattle.ff_flac_frame.proofs.residual.read_partition.Goals as goal

pub read_rices_restored-requires-clause-parameter : goal.read_rices_restored-requires-clause-parameter
read_rices_restored-requires-clause-parameter c =
    let two : 0 < 2 = omega arith in
    let m : 2 ^ c.args.w ≤ 2 ^ 5 = pow-le-pow_right two c.requires.width in
    let l = c.in_ok-k.ensures.below in
    omega arith
