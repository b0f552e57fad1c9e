use Rattle.std.proofs.Common.{◌≡◌, ◌≤◌, take, map, length}
use Rattle.std.specs.Prelude.{vec_capacity}
use Rattle.ff_frame.specs.Heads.{base_of_head}
use Rattle.ff_fsync.proofs.stacks.bases.bases.Given as goal

abbrev pub invariant-heads : goal.invariant-heads
invariant-heads l = record {
  bases : l.bases.items ≡ map base_of_head (take l.i l.heads);
  count : length l.bases.items ≡ l.i;
  room : length l.heads ≤ vec_capacity l.bases;
}
