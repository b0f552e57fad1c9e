use Rattle.std.proofs.Common.{◌≡◌}
use Rattle.ff_bench.proofs.sched.tell_all.Given as goal

abbrev pub invariant-loop-time : goal.invariant-loop-time
invariant-loop-time g l = l.pass.cell ≡ l.cell
