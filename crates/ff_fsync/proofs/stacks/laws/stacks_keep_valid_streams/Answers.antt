use Rattle.ff_fsync.proofs.StacksLemmas.Keeping.{valid_kept}
use Rattle.ff_fsync.proofs.stacks.laws.stacks_keep_valid_streams.Goals as goal

pub returns : goal.returns
returns c = λ tb format width height sar_num sar_den s v. valid_kept tb format width height sar_num sar_den s v
