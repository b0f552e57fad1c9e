use Rattle.std.proofs.Common.{◌≡◌, true, ◌||◌}
use Rattle.ff_fsync.specs.Ranges.{all_to}
use Rattle.ff_fsync.specs.Synced.{outlasts}
use Rattle.ff_fsync.specs.laws.Syncs.{standing_of, timing_of, ended_if}
use Rattle.ff_fsync.proofs.framesync.Framesync.all_outlast.Given as goal
use Rattle.ff_stream.specs.Stream.{is_whole}

abbrev pub invariant-inputs : goal.invariant-inputs
invariant-inputs g l = all_to l.q (λ q. is_whole (ended_if l.ended (standing_of l.self.head l.self.inputs.items) q).mark || outlasts (timing_of l.self.shortest l.self.inputs.items) (ended_if l.ended (standing_of l.self.head l.self.inputs.items)) l.port q) ≡ true
