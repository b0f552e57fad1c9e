use Rattle.std.proofs.Common.{◌≡◌, drop}
use Rattle.ff_fsync.specs.Synced.{each_of}
use Rattle.ff_fsync.specs.stacks.Heads.{are_alike}
use Rattle.ff_fsync.proofs.stacks.heads.all_alike.Given as goal

abbrev pub invariant-heads : goal.invariant-heads
invariant-heads l = each_of (are_alike l.direction l.first) (drop l.i l.heads) ≡ each_of (are_alike l.direction l.first) l.heads
