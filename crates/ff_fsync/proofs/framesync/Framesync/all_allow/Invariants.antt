use Rattle.std.proofs.Common.{◌≡◌, true}
use Rattle.ff_fsync.specs.Ranges.{all_to}
use Rattle.ff_fsync.specs.Synced.{allows}
use Rattle.ff_fsync.specs.laws.Syncs.{standing_of, timing_of}
use Rattle.ff_fsync.proofs.framesync.Framesync.all_allow.Given as goal

abbrev pub invariant-inputs : goal.invariant-inputs
invariant-inputs g l = all_to l.p (allows (timing_of l.self.shortest l.self.inputs.items) (standing_of l.self.head l.self.inputs.items) l.time) ≡ true
