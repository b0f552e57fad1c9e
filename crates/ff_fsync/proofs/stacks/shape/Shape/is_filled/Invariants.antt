use Rattle.std.proofs.Common.{◌≡◌, ◌+◌, ◌*◌, ◌≤◌, drop}
use Rattle.ff_planes.specs.declared.component.Component.TheVariants.{Luma, Blue}
use Rattle.ff_fsync.specs.stacks.Shapes.{sum_along}
use Rattle.ff_fsync.proofs.stacks.shape.Shape.is_filled.Given as goal

abbrev pub invariant-pictures : goal.invariant-pictures
invariant-pictures l = record {
  y : l.luma + sum_along l.self.direction l.self.format Luma (drop l.i l.pictures) ≡ sum_along l.self.direction l.self.format Luma l.pictures;
  cb : l.chroma + sum_along l.self.direction l.self.format Blue (drop l.i l.pictures) ≡ sum_along l.self.direction l.self.format Blue l.pictures;
  few_y : l.luma ≤ 4294967296 * l.i;
  few_cb : l.chroma ≤ 4294967296 * l.i;
}
