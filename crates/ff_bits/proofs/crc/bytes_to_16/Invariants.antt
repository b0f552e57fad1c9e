use Rattle.std.proofs.Common.{◌≡◌, drop, length}
use Rattle.ff_bits.specs.Bits.{bits}
use Rattle.ff_bits.specs.Crc.{remainder_from}
use Rattle.ff_bits.proofs.crc.bytes_to_16.Given as goal

abbrev pub invariant-loop-left : goal.invariant-loop-left
invariant-loop-left l = remainder_from 0x18005 16 l.sum (bits l.left) ≡ remainder_from 0x18005 16 l.fn.sum (bits l.bytes)

abbrev pub decreases-loop-left : goal.decreases-loop-left
decreases-loop-left l = length l.left

abbrev pub invariant-loop-byte : goal.invariant-loop-byte
invariant-loop-byte l = remainder_from 0x18005 16 l.sum (bits (drop l.byte-index l.byte-items)) ≡ remainder_from 0x18005 16 l.fn.sum (bits l.bytes)
