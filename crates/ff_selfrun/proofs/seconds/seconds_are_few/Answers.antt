use Rattle.ff_selfrun.proofs.Few.{seconds_few}
use Rattle.ff_selfrun.proofs.seconds.seconds_are_few.Goals as goal

pub returns : goal.returns
returns c = seconds_few
