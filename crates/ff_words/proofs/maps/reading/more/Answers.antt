use Rattle.std.proofs.Common.{◌^◌, ◌<◌, ◌≤◌, ℕ, arith}
use Rattle.std.proofs.Math.Nat.{pow-le-pow_right}
use Rattle.ff_words.proofs.maps.reading.more.Goals as goal

small : (k n : ℕ) → k < 9 → n < 10 ^ k → n < 100000000
small k n short below =
    let high : 10 ^ k ≤ 10 ^ 8 = pow-le-pow_right {n = 10} (omega arith) {i = k} {j = 8} (omega (arith, short)) in
    omega (arith, below, high)

pub overflow_mul-result : goal.overflow_mul-result
overflow_mul-result c = omega (arith, small c.args.digits c.args.number c.requires.room c.requires.small)

pub overflow_add-result : goal.overflow_add-result
overflow_add-result c = omega (arith, small c.args.digits c.args.number c.requires.room c.requires.small, c.requires.decimal)
