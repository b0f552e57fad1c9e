use Rattle.ff_trim.proofs.Ruled.{cut_by_rule}
use Rattle.ff_trim.proofs.laws.cuts_are_as_their_rule_says.Goals as goal

pub returns : goal.returns
returns c head k s b e v = cut_by_rule head k s b e v
