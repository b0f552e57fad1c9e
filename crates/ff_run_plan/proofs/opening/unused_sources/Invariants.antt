use Rattle.ff_run_plan.specs.Openings.{is_read}
use Rattle.ff_run_plan.proofs.Marks.{AreMarks}
use Rattle.ff_run_plan.proofs.opening.unused_sources.Given as goal

abbrev pub invariant-loop-k : goal.invariant-loop-k
invariant-loop-k l = AreMarks (is_read l.fn.nodes) l.fn.sources l.k l.marks
