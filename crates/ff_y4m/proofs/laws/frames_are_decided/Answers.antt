use Rattle.ff_y4m.proofs.DecidedLaws.{decided}
use Rattle.ff_y4m.proofs.laws.frames_are_decided.Goals as goal

pub returns : goal.returns
returns c = decided
