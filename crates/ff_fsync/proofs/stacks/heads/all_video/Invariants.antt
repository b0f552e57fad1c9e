use Rattle.std.proofs.Common.{◌≡◌, drop}
use Rattle.ff_filter.specs.Options.{is_video}
use Rattle.ff_fsync.specs.Synced.{each_of}
use Rattle.ff_fsync.proofs.stacks.heads.all_video.Given as goal

abbrev pub invariant-heads : goal.invariant-heads
invariant-heads l = each_of is_video (drop l.i l.heads) ≡ each_of is_video l.heads
