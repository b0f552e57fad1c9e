use Rattle.std.proofs.Common.{◌≡◌, ◌++◌, take}
use Rattle.ff_planes.specs.Stacks.{beside_row}
use Rattle.ff_planes.proofs.stacking.push_row.Given as goal

abbrev pub invariant-pictures : goal.invariant-pictures
invariant-pictures l = l.out.items ≡ l.fn.out.items ++ beside_row l.format l.height l.component (take l.picture-index l.pictures) l.row
