use Rattle.ff_concat.proofs.Begins.{tick_is}
use Rattle.ff_concat.proofs.laws.units_are_exact.Goals as goal

pub returns : goal.returns
returns c bases q d lt = tick_is 1 bases q d lt
