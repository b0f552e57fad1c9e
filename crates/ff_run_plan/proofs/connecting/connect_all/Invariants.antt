use Rattle.std.proofs.Common.{◌≡◌}
use Rattle.ff_run_plan.proofs.connecting.connect_all.Given as goal

abbrev pub invariant-loop-edge : goal.invariant-loop-edge
invariant-loop-edge g l = l.parts ≡ l.fn.parts
