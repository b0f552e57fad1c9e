use Rattle.std.proofs.Common.{◌≡◌, ◌≤◌, ◌+◌, ◌++◌, map, Some, vec_items, vec_len, vec_capacity}
use Rattle.std.specs.Vec.Iter.{into_iter_items, into_iter_len}
use Rattle.ff_run_plan.proofs.tables.tabled.Given as goal

abbrev pub invariant-loop-item : goal.invariant-loop-item
invariant-loop-item g l = record {
  parts : vec_items l.table ++ map Some (into_iter_items l.item-iterator) ≡ map Some (vec_items l.fn.items);
  room : vec_len l.table + into_iter_len l.item-iterator ≤ vec_capacity l.table;
}
