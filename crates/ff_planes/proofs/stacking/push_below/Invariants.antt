use Rattle.std.proofs.Common.{◌≡◌, ◌++◌, take}
use Rattle.ff_planes.specs.Stacks.{below_plane}
use Rattle.ff_planes.proofs.stacking.push_below.Given as goal

abbrev pub invariant-pictures : goal.invariant-pictures
invariant-pictures l = l.out.items ≡ l.fn.out.items ++ below_plane l.format l.width l.component (take l.picture-index l.pictures)
