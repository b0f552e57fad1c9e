use Rattle.std.proofs.Common.{◌≡◌, take, vec_items}
use Rattle.ff_run_plan.specs.Tasks.{heads_on}
use Rattle.ff_run_plan.proofs.lanes.heads_on.Given as goal

abbrev pub invariant-loop-k : goal.invariant-loop-k
invariant-loop-k l = vec_items l.heads ≡ heads_on (take l.k l.lanes)
