use Rattle.std.proofs.Common.{◌≡◌, ◌≤◌, length, vec_len}
use Rattle.ff_fsync.specs.laws.Inputs.{all_back}
use Rattle.ff_fsync.specs.laws.Syncs.{sides_of}
use Rattle.ff_fsync.proofs.lending.restore.Given as goal

abbrev pub invariant-pictures : goal.invariant-pictures
invariant-pictures l = record {
  back : all_back l.pictures.items (sides_of l.inputs.items) ≡ all_back l.fn.pictures.items (sides_of l.fn.inputs.items);
  no_more : length l.pictures.items ≤ length l.inputs.items;
}

abbrev pub decreases-pictures : goal.decreases-pictures
decreases-pictures l = vec_len l.pictures
