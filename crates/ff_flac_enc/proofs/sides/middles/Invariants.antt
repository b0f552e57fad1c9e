use Rattle.std.proofs.Common.{◌≡◌, take, length}
use Rattle.ff_flac_enc.specs.Layout.{mid_of}
use Rattle.ff_flac_enc.proofs.sides.middles.Given as goal

abbrev pub invariant-loop-i : goal.invariant-loop-i
invariant-loop-i l = record { len : length l.mid ≡ length l.left; is : take l.i l.mid ≡ mid_of (take l.i l.left) (take l.i l.right) }
