use Rattle.std.proofs.Common.{◌≡◌, ◌++◌}
use Rattle.ff_planes.specs.Grid.{lines}
use Rattle.ff_planes.specs.Stacks.{beside_row}
use Rattle.ff_planes.proofs.stacking.push_beside.Given as goal

abbrev pub invariant-rows : goal.invariant-rows
invariant-rows l = l.out.items ≡ l.fn.out.items ++ lines l.row (beside_row l.format l.height l.component l.pictures)
