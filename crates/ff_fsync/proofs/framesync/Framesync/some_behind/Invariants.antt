use Rattle.std.proofs.Common.{◌≡◌, false, ◌&&◌, not}
use Rattle.ff_fsync.specs.Ranges.{any_to}
use Rattle.ff_fsync.specs.Synced.{reached}
use Rattle.ff_fsync.specs.laws.Syncs.{standing_of, timing_of}
use Rattle.ff_fsync.proofs.framesync.Framesync.some_behind.Given as goal
use Rattle.ff_stream.specs.Stream.{is_open}

abbrev pub invariant-inputs : goal.invariant-inputs
invariant-inputs g l = any_to l.p (λ p. is_open ((standing_of l.self.head l.self.inputs.items) p).mark && not (reached (timing_of l.self.shortest l.self.inputs.items) (standing_of l.self.head l.self.inputs.items) l.time p)) ≡ false
