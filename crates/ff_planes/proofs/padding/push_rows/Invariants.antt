use Rattle.std.proofs.Common.{◌≡◌, ◌++◌}
use Rattle.ff_planes.specs.Grid.{lines}
use Rattle.ff_planes.specs.Parts.{between_values}
use Rattle.ff_planes.proofs.padding.push_rows.Given as goal

abbrev pub invariant-rows : goal.invariant-rows
invariant-rows l = l.out.items ≡ l.fn.out.items ++ lines l.row (between_values l.value l.left l.right l.columns l.bytes)
