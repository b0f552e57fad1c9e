use Rattle.std.proofs.Common.{◌+◌, ◌/◌, ◌^◌, ◌≤◌, ◌<◌, ℕ, bit_or, arith}
use Rattle.std.proofs.Math.Nat.{pow-le-pow_right}
use Rattle.std.proofs.lemmas.Nat.{and_le_r}
use lib.Count.{count_trailing_zeros}
use Rattle.ff_bench.proofs.bits.written_with_zeros.Goals as goal

pub put-requires : goal.put-requires
put-requires c =
    let n : ℕ = count_trailing_zeros 32 (bit_or c.next-bits.result 128) + 1 + 3 in
    let two : 0 < 2 = omega arith in
    let four : 4 ≤ n = omega arith in
    let m : 2 ^ 4 ≤ 2 ^ n = pow-le-pow_right two four in
    let low = and_le_r (c.next-bits.result / 256) 7 in
    omega arith
