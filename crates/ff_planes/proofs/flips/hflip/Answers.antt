use Rattle.std.proofs.Common.{◌∙◌}
use Rattle.ff_planes.specs.Flips.{mirrored}
use Rattle.ff_planes.proofs.PlaneLaws.{split_planes, made_of_planes, hflipped_by_planes}
use Rattle.ff_planes.proofs.flips.hflip.Goals as goal

pub returns : goal.returns
returns c =
    made_of_planes mirrored c.args.format c.args.width c.args.height c.chroma_width-columns.result c.chroma_height-rows.result c.args.planes.now _ _ _ _ _ _ c.chroma_width-columns.ensures c.chroma_height-rows.ensures
    (split_planes c.args.format c.args.width c.args.height _ _ c.args.planes.now _ _ _ _ c.chroma_width-columns.ensures c.chroma_height-rows.ensures c.split_at_mut-luma.ensures.front c.split_at_mut-luma.ensures.back c.split_at_mut-blue.ensures.front c.split_at_mut-blue.ensures.back)
    c.mirror_rows.ensures c.mirror_rows-2.ensures c.mirror_rows-3.ensures
    ∙ hflipped_by_planes c.args.format c.args.width c.args.height c.args.planes.now
