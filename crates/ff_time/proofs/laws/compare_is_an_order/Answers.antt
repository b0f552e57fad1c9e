use Rattle.ff_time.proofs.TimeOrder.{moment_cmp_total, moment_cmp-equal}
use Rattle.ff_time.proofs.laws.compare_is_an_order.Goals as goal

pub returns-clause-total : goal.returns-clause-total
returns-clause-total c = moment_cmp_total

pub returns-clause-equal : goal.returns-clause-equal
returns-clause-equal c = λ x y. moment_cmp-equal x y
