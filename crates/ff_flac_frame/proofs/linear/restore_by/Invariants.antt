use Rattle.std.proofs.Common.{◌≡◌, ◌≤◌, ◌+◌, ◌-◌, length, drop, vec_len, vec_capacity}
use Rattle.ff_flac_frame.specs.Prediction.{ago, linear, restored, AllInDepth}
use Rattle.ff_flac_frame.proofs.linear.restore_by.Given as goal

abbrev pub invariant-loop-r : goal.invariant-loop-r
invariant-loop-r l = record {
  total : restored (linear l.coefs l.shift) l.out.items (drop l.r-index l.rest) ≡ restored (linear l.coefs l.shift) l.fn.samples.items l.rest;
  last : l.last ≡ ago 1 l.out.items;
  there : length l.coefs ≤ length l.out.items;
  within : AllInDepth l.depth l.out.items;
  room : vec_len l.out + (length l.rest - l.r-index) ≤ vec_capacity l.out;
}
