use Rattle.std.proofs.Common.{◌≡◌, ◌≤◌, ◌+◌, ◌++◌, vec_items, vec_len, vec_capacity}
use Rattle.std.specs.Vec.Iter.{into_iter_items, into_iter_len}
use Rattle.ff_files.proofs.trace.with_last.Given as goal

abbrev pub invariant-loop-snk : goal.invariant-loop-snk
invariant-loop-snk g l = record {
  parts : vec_items l.all ++ into_iter_items l.snk-iterator ≡ vec_items l.fn.snks;
  room : vec_len l.all + into_iter_len l.snk-iterator + 1 ≤ vec_capacity l.all;
}
