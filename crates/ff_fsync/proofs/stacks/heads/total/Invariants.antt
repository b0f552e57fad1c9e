use Rattle.std.proofs.Common.{◌≡◌, ◌+◌, ◌*◌, ◌≤◌, drop}
use Rattle.ff_fsync.specs.stacks.Heads.{total}
use Rattle.ff_fsync.proofs.stacks.heads.total.Given as goal

abbrev pub invariant-heads : goal.invariant-heads
invariant-heads l = record {
  sum : l.total + total l.direction (drop l.i l.heads) ≡ total l.direction l.heads;
  few : l.total ≤ 4294967296 * l.i;
}
