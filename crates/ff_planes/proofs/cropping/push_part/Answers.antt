use Rattle.std.proofs.Common.{◌∙◌, arith, ◌-◌, ◌+◌, ◌*◌, take, drop}
use Rattle.std.proofs.lemmas.Slice.{pushed}
use Rattle.ff_planes.proofs.PartLaws.{one_more_part}
use Rattle.ff_planes.proofs.cropping.push_part.Goals as goal

pub rows-preserved : goal.rows-preserved
rows-preserved c =
    let start = c.rows.row * c.args.columns + c.args.part.x in
    pushed (take (start + c.args.part.width - start) (drop start c.args.bytes.now)) c.rows.invariant c.in_ok-extend_from_slice.was c.extend_from_slice.ensures.items
    ∙ one_more_part c.args.columns c.args.rows c.rows.row (start + c.args.part.width - start) c.args.part c.args.bytes.now c.args.out.now.items c.requires.size c.requires.inside (omega arith) (omega arith) (omega arith)
