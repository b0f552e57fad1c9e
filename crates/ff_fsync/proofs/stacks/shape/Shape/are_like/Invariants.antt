use Rattle.std.proofs.Common.{◌≡◌, drop}
use Rattle.ff_fsync.specs.Synced.{each_of}
use Rattle.ff_fsync.specs.stacks.Shapes.{is_like}
use Rattle.ff_fsync.proofs.stacks.shape.Shape.are_like.Given as goal

abbrev pub invariant-pictures : goal.invariant-pictures
invariant-pictures l = each_of (is_like l.self) (drop l.i l.pictures) ≡ each_of (is_like l.self) l.pictures
