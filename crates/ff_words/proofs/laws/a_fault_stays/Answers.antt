use Rattle.ff_words.proofs.Unique.{fault-stays}
use Rattle.ff_words.proofs.laws.a_fault_stays.Goals as goal

pub returns : goal.returns
returns c = fault-stays
