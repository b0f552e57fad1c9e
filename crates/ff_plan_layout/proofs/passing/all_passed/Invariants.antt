use Rattle.std.proofs.Common.{◌≡◌, ◌+◌, ◌≤◌, drop, vec_len}
use Rattle.ff_plan_layout.specs.Streams.{all_passed, front_with}
use Rattle.ff_plan_layout.proofs.passing.all_passed.Given as goal

abbrev pub invariant-loop-n : goal.invariant-loop-n
invariant-loop-n g l = record {
  so_far : all_passed (g.F.Filtering.rules l.filtering) l.out l.output l.first 0 l.pads ≡ front_with l.row.items (all_passed (g.F.Filtering.rules l.filtering) l.out l.output l.number l.n (drop l.n l.pads));
  counted : vec_len l.row ≡ l.n;
  few : l.n ≤ 16;
  low : l.number ≤ l.first + l.n;
}
