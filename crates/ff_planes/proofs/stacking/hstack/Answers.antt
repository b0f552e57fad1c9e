use Rattle.std.proofs.Common.{◌∙◌, ap, ◌++◌}
use Rattle.ff_planes.specs.declared.component.Component.TheVariants.{Luma}
use Rattle.ff_planes.specs.Grid.{rows, lines}
use Rattle.ff_planes.specs.Stacks.{beside_row}
use Rattle.ff_planes.proofs.StackLaws.{hstacked_by_planes}
use Rattle.ff_planes.proofs.stacking.hstack.Goals as goal

pub returns : goal.returns
returns c =
    hstacked_by_planes c.args.format c.args.width c.args.height c.args.pictures.now _ _ _ c.requires.alike c.requires.filled
    (c.in_ok-push_beside.ensures ∙ ap (λ xs. xs ++ lines (rows c.args.format c.args.height Luma) (beside_row c.args.format c.args.height Luma c.args.pictures.now)) c.in_ok-out.ensures.items) c.in_ok-push_beside-2.ensures c.in_ok-push_beside-3.ensures
