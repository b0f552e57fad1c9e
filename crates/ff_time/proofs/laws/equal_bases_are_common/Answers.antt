use Rattle.ff_time.proofs.CommonBases.{one_is_base, units_of_one}
use Rattle.ff_time.proofs.laws.equal_bases_are_common.Goals as goal

pub returns-clause-same : goal.returns-clause-same
returns-clause-same c = one_is_base

pub returns-clause-unit : goal.returns-clause-unit
returns-clause-unit c = units_of_one
