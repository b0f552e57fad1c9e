use Rattle.ff_fsync.specs.laws.Syncs.{IsBound}
use Rattle.ff_fsync.proofs.framesync.Framesync.bound.Given as goal

abbrev pub invariant-inputs : goal.invariant-inputs
invariant-inputs g l = IsBound l.self.head l.self.shortest l.self.inputs.items l.p l.bound
