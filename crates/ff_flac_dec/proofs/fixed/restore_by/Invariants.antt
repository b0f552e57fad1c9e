use Rattle.std.proofs.Common.{◌≡◌, ◌≤◌, length, drop}
use Rattle.ff_flac_frame.specs.Prediction.{ago, fixed, restored, AllInDepth}
use Rattle.ff_flac_dec.proofs.fixed.restore_by.Given as goal

abbrev pub invariant-loop-r : goal.invariant-loop-r
invariant-loop-r l = record {
  total : restored (fixed l.order) l.out.items (drop l.r-index l.rest) ≡ restored (fixed l.order) l.warm l.rest;
  last : l.last ≡ ago 1 l.out.items;
  there : l.order ≤ length l.out.items;
  within : AllInDepth l.depth l.out.items;
}
