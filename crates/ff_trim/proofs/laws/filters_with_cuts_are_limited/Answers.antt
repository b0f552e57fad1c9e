use Rattle.ff_trim.proofs.Limiting.{cutting_limited}
use Rattle.ff_trim.proofs.laws.filters_with_cuts_are_limited.Goals as goal

pub returns : goal.returns
returns c heads cs v w cuts same outs k l = cutting_limited heads cs v w cuts same outs k l
