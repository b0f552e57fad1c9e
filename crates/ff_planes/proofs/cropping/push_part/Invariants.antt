use Rattle.std.proofs.Common.{◌≡◌, ◌-◌, ◌++◌}
use Rattle.ff_planes.specs.Grid.{lines}
use Rattle.ff_planes.proofs.PartLaws.{part_row}
use Rattle.ff_planes.proofs.cropping.push_part.Given as goal

abbrev pub invariant-rows : goal.invariant-rows
invariant-rows l = l.out.items ≡ l.fn.out.items ++ lines (l.row - l.part.y) (part_row l.columns l.bytes l.part)
