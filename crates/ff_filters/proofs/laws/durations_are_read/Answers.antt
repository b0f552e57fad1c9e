use Rattle.ff_filters.proofs.Durations.{duration_in, duration_out}
use Rattle.ff_filters.proofs.laws.durations_are_read.Goals as goal

pub returns : goal.returns
returns c = λ text us. (duration_in text us, duration_out text us)
