use Rattle.std.proofs.Common.{◌≡◌, map, take, length}
use Rattle.ff_flac_subframe.specs.rice.Rice.{zigzagged}
use Rattle.ff_flac_subframe.specs.Subframe.{rest_of}
use Rattle.ff_flac_subframe.proofs.samples.zigzag_each.Given as goal

abbrev pub invariant-loop-i : goal.invariant-loop-i
invariant-loop-i l = record {
  len : length l.us ≡ length l.initial.us;
  is : take l.i l.us ≡ map zigzagged (take l.i (rest_of l.order l.xs));
}
