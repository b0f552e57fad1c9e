use Rattle.ff_time.proofs.CommonBases.{common_once, all_whole}
use Rattle.ff_time.proofs.laws.common_bases_tell_each_time.Goals as goal

pub returns-clause-one : goal.returns-clause-one
returns-clause-one c = common_once

pub returns-clause-whole : goal.returns-clause-whole
returns-clause-whole c = λ bases f are base is. all_whole bases f base.num_positive are is
