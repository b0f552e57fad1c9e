use Rattle.std.proofs.Common.{◌≡◌}
use Rattle.ff_bench.proofs.sched.ask_all.Given as goal

abbrev pub invariant-loop : goal.invariant-loop
invariant-loop g l = l.pass.cell ≡ l.cell
