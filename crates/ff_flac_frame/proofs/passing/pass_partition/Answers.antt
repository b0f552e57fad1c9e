use Rattle.std.proofs.Common.{◌≤◌, ◌<◌, ◌^◌, arith}
use Rattle.std.proofs.Math.Nat.{pow-le-pow_right}
use Rattle.ff_flac_frame.proofs.passing.pass_partition.Goals as goal

pub pass_rices-requires : goal.pass_rices-requires
pass_rices-requires c =
    let two : 0 < 2 = omega arith in
    let m : 2 ^ c.args.w ≤ 2 ^ 5 = pow-le-pow_right two c.requires in
    let l = c.in_ok-k.ensures.below in
    omega arith
