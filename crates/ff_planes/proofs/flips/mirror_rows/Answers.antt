use Rattle.std.proofs.Common.{arith}
use Rattle.ff_planes.proofs.RowLaws.{one_more_mirrored}
use Rattle.ff_planes.proofs.flips.mirror_rows.Goals as goal

pub rows-preserved : goal.rows-preserved
rows-preserved c =
    one_more_mirrored c.args.columns c.args.rows c.rows.row _ c.args.bytes.now c.rows.bytes c.reverse.new.self (omega arith) c.requires (omega arith) c.rows.invariant c.reverse.ensures.after
