use Rattle.std.proofs.Common.{refl}
use Rattle.ff_planes.specs.Flips.{hflipped, vflipped}
use Rattle.ff_planes.specs.Parts.{cropped, padded}
use Rattle.ff_planes.specs.Stacks.{hstacked, vstacked}
use Rattle.ff_planes.proofs.laws.small_pictures.Goals as goal

pub returns : goal.returns
unfolding hflipped vflipped cropped padded hstacked vstacked
returns c = record { hflip = refl; vflip = refl; crop = refl; pad = refl; hstack = refl; vstack = refl }
