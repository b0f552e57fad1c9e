use Rattle.std.proofs.Common.{◌≡◌, false}
use Rattle.ff_fsync.specs.Ranges.{any_to}
use Rattle.ff_fsync.specs.laws.Syncs.{standing_of}
use Rattle.ff_fsync.proofs.framesync.Framesync.is_lost.Given as goal
use Rattle.ff_stream.specs.Stream.{is_broken}

abbrev pub invariant-inputs : goal.invariant-inputs
invariant-inputs g l = any_to l.p (λ p. is_broken ((standing_of l.self.head l.self.inputs.items) p).mark) ≡ false
