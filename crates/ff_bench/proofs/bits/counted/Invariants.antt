use Rattle.std.proofs.Common.{◌^◌, ◌≤◌, length}
use Rattle.ff_bench.proofs.bits.counted.Given as goal

abbrev pub invariant-loop : goal.invariant-loop
invariant-loop l = length l.reader ≤ 2 ^ 53
