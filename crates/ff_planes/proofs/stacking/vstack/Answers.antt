use Rattle.std.proofs.Common.{◌∙◌, ap, ◌++◌}
use Rattle.ff_planes.specs.declared.component.Component.TheVariants.{Luma}
use Rattle.ff_planes.specs.Stacks.{below_plane}
use Rattle.ff_planes.proofs.StackLaws.{vstacked_by_planes}
use Rattle.ff_planes.proofs.stacking.vstack.Goals as goal

pub returns : goal.returns
returns c =
    vstacked_by_planes c.args.format c.args.width c.args.height c.args.pictures.now _ _ _ c.requires.alike c.requires.filled
    (c.in_ok-push_below.ensures ∙ ap (λ xs. xs ++ below_plane c.args.format c.args.width Luma c.args.pictures.now) c.in_ok-out.ensures.items) c.in_ok-push_below-2.ensures c.in_ok-push_below-3.ensures
