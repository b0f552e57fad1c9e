use Rattle.ff_concat.proofs.Begins.{none_later, ends_before}
use Rattle.ff_concat.proofs.laws.segments_meet_without_overlap.Goals as goal

pub returns-clause-inside : goal.returns-clause-inside
returns-clause-inside c tick_list w p tails q lt = none_later tick_list w p tails q lt

pub returns-clause-apart : goal.returns-clause-apart
returns-clause-apart c tick time long end some le = ends_before tick time long end some le
