use Rattle.std.proofs.Common.{◌∙◌, ap, ◌++◌}
use Rattle.ff_planes.specs.Parts.{part_of}
use Rattle.ff_planes.proofs.PartLaws.{cropped_by_planes}
use Rattle.ff_planes.proofs.cropping.crop.Goals as goal

pub returns : goal.returns
returns c =
    cropped_by_planes c.args.format c.args.width c.args.height c.chroma_width-columns.result c.args.part c.in_chroma-chroma_part.result c.args.planes.now _ _ _ _ _ _
    c.in_chroma-chroma_part.ensures c.chroma_width-columns.ensures c.plane-luma.ensures.bytes c.plane-blue.ensures.bytes c.plane-red.ensures.bytes
    (c.in_ok-push_part.ensures ∙ ap (λ xs. xs ++ part_of c.args.width c.plane-luma.result.now c.args.part) c.in_ok-out.ensures.items) c.in_ok-push_part-2.ensures c.in_ok-push_part-3.ensures
