use Rattle.ff_plan_rules.proofs.Few.{pads_few}
use Rattle.ff_plan_rules.proofs.FewOuts.{outs_few, number_small}
use Rattle.ff_plan_rules.proofs.laws.words_have_few_pads.Goals as goal

pub returns : goal.returns
returns c = record { inputs = pads_few; outputs = outs_few; number = number_small }
