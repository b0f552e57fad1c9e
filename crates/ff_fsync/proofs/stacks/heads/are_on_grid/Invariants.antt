use Rattle.std.proofs.Common.{◌≡◌, drop}
use Rattle.ff_fsync.specs.stacks.Heads.{all_on_grid}
use Rattle.ff_fsync.proofs.stacks.heads.are_on_grid.Given as goal

abbrev pub invariant-heads : goal.invariant-heads
invariant-heads l = all_on_grid l.direction (drop l.i l.heads) ≡ all_on_grid l.direction l.heads
