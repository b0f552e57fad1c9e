use Rattle.ff_trim.proofs.Limiting.{cut_limited}
use Rattle.ff_trim.proofs.laws.cuts_keep_limits.Goals as goal

pub returns : goal.returns
returns c ins heads cs f cuts same l = cut_limited ins heads cs f cuts same l
