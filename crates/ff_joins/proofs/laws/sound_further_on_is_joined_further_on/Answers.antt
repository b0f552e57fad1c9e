use Rattle.ff_joins.specs.laws.JoinRule.{side-keeps}
use Rattle.ff_joins.proofs.laws.sound_further_on_is_joined_further_on.Goals as goal

pub returns : goal.returns
returns c n channels rate bits all ss ts h = side-keeps n channels rate bits all ss ts h
