use Rattle.ff_filters.proofs.Owed.{never_short}
use Rattle.ff_filters.proofs.laws.the_function_needs_no_memory.Goals as goal

pub returns : goal.returns
returns c = never_short
