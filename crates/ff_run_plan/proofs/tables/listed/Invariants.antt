use Rattle.std.proofs.Common.{◌≡◌, ◌≤◌, ◌+◌, ◌++◌, map, Some, vec_items, vec_len, vec_capacity}
use Rattle.std.specs.Vec.Iter.{into_iter_items, into_iter_len}
use Rattle.ff_run_plan.proofs.tables.listed.Given as goal

abbrev pub invariant-loop-place : goal.invariant-loop-place
invariant-loop-place g l = record {
  parts : map Some (vec_items l.items) ++ into_iter_items l.place-iterator ≡ vec_items l.fn.table;
  room : vec_len l.items + into_iter_len l.place-iterator ≤ vec_capacity l.items;
}
