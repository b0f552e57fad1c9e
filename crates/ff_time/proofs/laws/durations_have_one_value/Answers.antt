use Rattle.ff_time.proofs.Spellings.{IsDuration-unique}
use Rattle.ff_time.proofs.laws.durations_have_one_value.Goals as goal

pub returns : goal.returns
returns c = λ text value other d e. IsDuration-unique text value other d e
