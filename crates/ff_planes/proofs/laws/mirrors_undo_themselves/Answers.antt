use Rattle.ff_planes.proofs.RoundLaws.{hflipped_twice, vflipped_twice}
use Rattle.ff_planes.proofs.laws.mirrors_undo_themselves.Goals as goal

pub returns : goal.returns
returns c = record { hflip = hflipped_twice; vflip = vflipped_twice }
