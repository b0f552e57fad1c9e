use Rattle.std.proofs.Common.{◌≡◌, ◌<◌, ◌^◌, take}
use Rattle.ff_fsync.specs.laws.Inputs.{items_of, last_by}
use Rattle.ff_fsync.specs.Sides.{frames_of}
use Rattle.ff_fsync.specs.stacks.Shapes.{lasts}
use Rattle.ff_fsync.proofs.stacks.machine.lasts_by.Given as goal

abbrev pub invariant-pictures : goal.invariant-pictures
invariant-pictures l = record {
  is : l.lasts ≡ lasts l.time (frames_of (last_by (items_of (take l.i l.queue.items)) l.time));
  near : l.lasts < 2 ^ 63;
}
