use Rattle.std.proofs.Common.{◌∙◌, ap, ◌++◌}
use Rattle.ff_planes.specs.Parts.{on_black}
use Rattle.ff_planes.proofs.PadLaws.{padded_by_planes}
use Rattle.ff_planes.proofs.padding.pad.Goals as goal

pub returns : goal.returns
returns c =
    padded_by_planes c.args.format c.args.width c.args.height c.chroma_width-columns.result c.chroma_height-rows.result c.args.part c.in_chroma-chroma_part.result c.args.planes.now _ _ _ _ _ _
    c.in_chroma-chroma_part.ensures c.chroma_width-columns.ensures c.chroma_height-rows.ensures c.plane-luma.ensures.bytes c.plane-blue.ensures.bytes c.plane-red.ensures.bytes
    (c.in_ok-push_on_black.ensures ∙ ap (λ xs. xs ++ on_black 16 c.args.width c.args.height c.args.part c.plane-luma.result.now) c.in_ok-out.ensures.items) c.in_ok-push_on_black-2.ensures c.in_ok-push_on_black-3.ensures
