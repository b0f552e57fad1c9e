use Rattle.std.proofs.Common.{◌≡◌, drop}
use Rattle.ff_run_plan.specs.Reads.{tried_in}
use Rattle.ff_run_plan.proofs.reads.tried.Given as goal

abbrev pub invariant-loop-number : goal.invariant-loop-number
invariant-loop-number g l = tried_in g.M.Machine.view l.source (drop l.number l.nodes) (drop l.number l.parts) ≡ tried_in g.M.Machine.view l.source l.nodes l.parts
