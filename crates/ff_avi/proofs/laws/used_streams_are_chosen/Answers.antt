use Rattle.ff_avi.proofs.ChosenLaws.{used_are_chosen}
use Rattle.ff_avi.proofs.laws.used_streams_are_chosen.Goals as goal

pub returns : goal.returns
returns c = used_are_chosen
