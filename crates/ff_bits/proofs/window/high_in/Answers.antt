use Rattle.std.proofs.Common.{◌≡◌, ap, arith}
use lib.Count.{count_leading_zeros}
use Rattle.ff_bits.proofs.window.high_in.Goals as goal

pub returns-then-word-eq0-clause-none : goal.returns-then-word-eq0-clause-none
unfolding count_leading_zeros
returns-then-word-eq0-clause-none c =
    let all : count_leading_zeros 64 c.args.word ≡ 64 = ap (count_leading_zeros 64) c.if-word-eq0.true in
    omega arith
