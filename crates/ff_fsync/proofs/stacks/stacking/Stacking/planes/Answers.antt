use Rattle.ff_fsync.proofs.StacksLemmas.Fitting.{beside_ready, below_ready}
use Rattle.ff_fsync.proofs.stacks.stacking.Stacking.planes.Goals as goal

pub hstack-requires-clause-alike : goal.hstack-requires-clause-alike
hstack-requires-clause-alike c = (beside_ready c.args.self.now.shape c.args.pictures.now c.in-Beside.is c.requires).0

pub hstack-requires-clause-filled : goal.hstack-requires-clause-filled
hstack-requires-clause-filled c = (beside_ready c.args.self.now.shape c.args.pictures.now c.in-Beside.is c.requires).1

pub vstack-requires-clause-alike : goal.vstack-requires-clause-alike
vstack-requires-clause-alike c = (below_ready c.args.self.now.shape c.args.pictures.now c.in-Below.is c.requires).0

pub vstack-requires-clause-filled : goal.vstack-requires-clause-filled
vstack-requires-clause-filled c = (below_ready c.args.self.now.shape c.args.pictures.now c.in-Below.is c.requires).1
