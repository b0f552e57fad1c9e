use Rattle.ff_trim.proofs.Ending.{cut_keeps, output_keeps}
use Rattle.ff_trim.proofs.laws.cuts_keep_the_broken_rule.Goals as goal

pub returns-clause-in_time : goal.returns-clause-in_time
returns-clause-in_time c head k = cut_keeps head k

pub returns-clause-of_output : goal.returns-clause-of_output
returns-clause-of_output c head k = output_keeps head k
