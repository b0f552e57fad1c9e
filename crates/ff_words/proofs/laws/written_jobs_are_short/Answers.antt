use Rattle.ff_words.proofs.Few.{few}
use Rattle.ff_words.proofs.laws.written_jobs_are_short.Goals as goal

pub returns : goal.returns
returns c = few
