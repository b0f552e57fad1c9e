use Rattle.std.proofs.Common.{◌≡◌, ◌≤◌, length, replicate}
use Rattle.std.specs.Prelude.{vec_capacity}
use Rattle.ff_filter.proofs.spread.copies.same_heads.Given as goal

abbrev pub invariant-heads : goal.invariant-heads
invariant-heads l = record {
  items : l.heads.items ≡ replicate l.i l.head;
  count : length l.heads.items ≡ l.i;
  room : l.count ≤ vec_capacity l.heads;
}
