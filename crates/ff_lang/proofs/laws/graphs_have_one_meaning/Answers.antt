use Rattle.ff_lang.proofs.Places.{IsGraph-unique, IsBadAt-unique}
use Rattle.ff_lang.proofs.laws.graphs_have_one_meaning.Goals as goal

pub returns-clause-graph : goal.returns-clause-graph
returns-clause-graph c = IsGraph-unique

pub returns-clause-place : goal.returns-clause-place
returns-clause-place c = IsBadAt-unique
