use Rattle.std.proofs.Common.{◌≡◌, ◌*◌, ◌++◌, drop}
use Rattle.ff_planes.specs.Grid.{lines}
use Rattle.ff_planes.proofs.RowLaws.{mirrored_row}
use Rattle.ff_planes.proofs.flips.mirror_rows.Given as goal

abbrev pub invariant-rows : goal.invariant-rows
invariant-rows l = l.bytes ≡ lines l.row (mirrored_row l.columns l.fn.bytes) ++ drop (l.row * l.columns) l.fn.bytes
