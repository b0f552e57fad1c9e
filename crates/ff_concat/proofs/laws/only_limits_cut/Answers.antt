use Rattle.ff_concat.proofs.Unbroken.{free_unbroken}
use Rattle.ff_concat.specs.laws.StartLaws.{whole_free, free_is}
use Rattle.ff_concat.proofs.laws.only_limits_cut.Goals as goal

pub returns-clause-cut : goal.returns-clause-cut
returns-clause-cut c heads n q d ss lt = whole_free heads n q d ss lt

pub returns-clause-unbroken : goal.returns-clause-unbroken
returns-clause-unbroken c m ss u q = free_unbroken m ss u q

pub returns-clause-free : goal.returns-clause-free
returns-clause-free c heads n q d ss lt = free_is heads n q d ss lt
