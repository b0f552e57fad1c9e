use Rattle.ff_fsync.specs.laws.Syncs.{IsStart}
use Rattle.ff_fsync.proofs.framesync.Framesync.start.Given as goal

abbrev pub invariant-inputs : goal.invariant-inputs
invariant-inputs g l = IsStart l.self.head l.self.shortest l.self.inputs.items l.from l.lo l.p
