use Rattle.ff_fsync.proofs.StacksLemmas.Exact.{told_same}
use Rattle.ff_fsync.proofs.stacks.laws.equal_bases_keep_times.Goals as goal

pub returns : goal.returns
returns c = told_same
