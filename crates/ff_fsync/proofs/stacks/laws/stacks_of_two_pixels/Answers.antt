use Rattle.std.proofs.Common.{refl}
use Rattle.ff_planes.specs.Stacks.{hstacked, vstacked}
use Rattle.ff_fsync.proofs.stacks.laws.stacks_of_two_pixels.Goals as goal

pub returns : goal.returns
unfolding hstacked vstacked
returns c = record { beside = refl; below = refl }
