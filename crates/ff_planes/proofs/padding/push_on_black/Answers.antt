use Rattle.std.proofs.Common.{◌-◌, arith}
use Rattle.ff_planes.proofs.PadLaws.{pushed_on_black}
use Rattle.ff_planes.proofs.padding.push_on_black.Goals as goal

pub returns : goal.returns
returns c =
    let part = c.args.part in
    pushed_on_black c.args.value c.args.columns c.args.rows (c.args.columns - part.x - part.width) (c.args.rows - part.y - part.height) part c.args.bytes.now c.args.out.now.items _ _ _
    c.requires.size c.requires.inside (omega arith) (omega arith) c.in_ok-push_value.ensures c.in_ok-push_rows.ensures c.in_ok-push_value-2.ensures
