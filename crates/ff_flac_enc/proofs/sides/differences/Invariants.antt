use Rattle.std.proofs.Common.{◌≡◌, take, length}
use Rattle.ff_flac_enc.specs.Layout.{side_of}
use Rattle.ff_flac_enc.proofs.sides.differences.Given as goal

abbrev pub invariant-loop-i : goal.invariant-loop-i
invariant-loop-i l = record { len : length l.side ≡ length l.left; is : take l.i l.side ≡ side_of (take l.i l.left) (take l.i l.right) }
