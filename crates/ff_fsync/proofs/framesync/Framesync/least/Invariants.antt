use Rattle.ff_fsync.specs.laws.Syncs.{LeastOf}
use Rattle.ff_fsync.proofs.framesync.Framesync.least.Given as goal

abbrev pub invariant-inputs : goal.invariant-inputs
invariant-inputs g l = LeastOf l.self.head l.self.shortest l.self.inputs.items l.lo l.p l.least
