use Rattle.std.proofs.Common.{◌≡◌, ◌<◌, ℕ, true}
use Rattle.ff_sched.specs.State.{exited_at}
use Rattle.ff_sched.proofs.choking.is_lowest.Given as goal

abbrev pub invariant-loop-i : goal.invariant-loop-i
invariant-loop-i l = record { exited : (i : ℕ) → i < l.i → exited_at l.state i ≡ true }
