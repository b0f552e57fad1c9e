use Rattle.ff_joins.specs.laws.JoinExamples.{mono_joined}
use Rattle.ff_joins.proofs.laws.two_channels_stand_side_by_side.Goals as goal

pub returns : goal.returns
returns c a b x y z = mono_joined a b x y z
