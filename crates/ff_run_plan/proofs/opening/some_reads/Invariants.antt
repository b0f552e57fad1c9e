use Rattle.std.proofs.Common.{◌≡◌, drop}
use Rattle.ff_run_plan.specs.Openings.{is_read}
use Rattle.ff_run_plan.proofs.opening.some_reads.Given as goal

abbrev pub invariant-loop-node : goal.invariant-loop-node
invariant-loop-node l = is_read (drop l.node-index l.nodes) l.number ≡ is_read l.nodes l.number
