use Rattle.std.proofs.Common.{◌≡◌, ◌*◌, length, take, drop}
use Rattle.ff_bits.specs.Bits.{bits}
use Rattle.ff_bits.specs.Crc.{remainder_from}
use Rattle.ff_bits.specs.laws.Carried.{carried}
use Rattle.ff_bits.proofs.crc.bring_in.Given as goal

abbrev pub invariant-loop-i : goal.invariant-loop-i
invariant-loop-i l = record {
  long : length l.words ≡ 94;
  stands : carried (drop l.i l.words) ≡ remainder_from 0x18005 16 (carried l.fn.words) (bits (take (8 * l.i) l.bytes));
}
