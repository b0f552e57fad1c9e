use Rattle.std.proofs.Common.{◌≡◌, false}
use Rattle.ff_fsync.specs.Ranges.{any_to}
use Rattle.ff_fsync.specs.Synced.{ends_with}
use Rattle.ff_fsync.specs.laws.Syncs.{standing_of, timing_of, ended_if}
use Rattle.ff_fsync.proofs.framesync.Framesync.is_complete.Given as goal

abbrev pub invariant-inputs : goal.invariant-inputs
invariant-inputs g l = any_to l.p (ends_with (timing_of l.self.shortest l.self.inputs.items) (ended_if l.ended (standing_of l.self.head l.self.inputs.items))) ≡ false
