use Rattle.std.proofs.Common.{◌≡◌, ◌≤◌, ◌+◌, ◌-◌, ◌*◌, ◌^◌, ◌+ℤ◌, drop, unsigned_abs}
use Rattle.ff_flac_frame.specs.Prediction.{weighted}
use Rattle.ff_flac_frame.proofs.linear.weigh_behind.Given as goal

abbrev pub invariant-loop-i : goal.invariant-loop-i
invariant-loop-i l = record {
  total : l.sum +ℤ weighted (drop l.i l.coefs) (l.i + 1) l.xs ≡ weighted (drop 1 l.coefs) 2 l.xs;
  bound : unsigned_abs l.sum ≤ (l.i - 1) * 2 ^ 38;
}
