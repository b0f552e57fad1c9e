use Rattle.std.proofs.Common.{◌≡◌, ◌≤◌, ◌++◌, take, vec_items, vec_len}
use Rattle.ff_run_plan.specs.Reads.{grants_of}
use Rattle.ff_run_plan.proofs.Grants.{still}
use Rattle.ff_run_plan.proofs.reads.first_grants.Given as goal

abbrev pub invariant-loop-at : goal.invariant-loop-at
invariant-loop-at l = record {
  few : vec_len l.places ≤ l.count;
  so_far : vec_items l.places ++ still l.source l.count (vec_len l.places) l.at l.events ≡ take l.count (grants_of l.source l.events);
}
