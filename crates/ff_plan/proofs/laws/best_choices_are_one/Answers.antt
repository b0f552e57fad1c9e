use Rattle.ff_plan_layout.proofs.Best.{best_is}
use Rattle.ff_plan.proofs.laws.best_choices_are_one.Goals as goal

pub returns : goal.returns
returns c = λ video audio heads refs h. best_is video audio heads refs h
