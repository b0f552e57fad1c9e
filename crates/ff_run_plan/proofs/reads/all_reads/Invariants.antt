use Rattle.std.proofs.Common.{◌≡◌, vec_items}
use Rattle.ff_run_plan.specs.Reads.{places_in, first_reads}
use Rattle.ff_run_plan.proofs.reads.all_reads.Given as goal

abbrev pub invariant-loop-source : goal.invariant-loop-source
invariant-loop-source g l = places_in (vec_items l.all) ≡ first_reads g.M.Machine.view l.source l.nodes l.parts l.events
