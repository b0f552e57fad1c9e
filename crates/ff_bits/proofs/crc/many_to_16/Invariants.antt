use Rattle.std.proofs.Common.{◌≡◌, length}
use Rattle.ff_bits.specs.Bits.{bits}
use Rattle.ff_bits.specs.Crc.{remainder_from, crc16_of}
use Rattle.ff_bits.specs.laws.Carried.{carried}
use Rattle.ff_bits.proofs.crc.many_to_16.Given as goal

abbrev pub invariant-loop-left : goal.invariant-loop-left
invariant-loop-left l = remainder_from 0x18005 16 (carried l.words) (bits l.left) ≡ crc16_of (bits l.bytes)

abbrev pub decreases-loop-left : goal.decreases-loop-left
decreases-loop-left l = length l.left
