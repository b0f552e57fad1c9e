use Rattle.ff_fsync.proofs.StacksLemmas.Exact.{stream_exact}
use Rattle.ff_fsync.proofs.stacks.laws.common_bases_keep_times.Goals as goal

pub returns : goal.returns
returns c = stream_exact
