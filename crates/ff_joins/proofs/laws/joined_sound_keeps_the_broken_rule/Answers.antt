use Rattle.ff_joins.specs.laws.JoinRule.{side-breaks}
use Rattle.ff_joins.proofs.laws.joined_sound_keeps_the_broken_rule.Goals as goal

pub returns : goal.returns
returns c n channels rate bits all = side-breaks n channels rate bits all
