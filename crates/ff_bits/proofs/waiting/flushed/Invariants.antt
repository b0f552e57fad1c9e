use Rattle.std.proofs.Common.{◌≡◌, ◌++◌, ◌+◌, ◌*◌, ◌≤◌, ◌<◌, vec_len, vec_capacity}
use Rattle.ff_bits.specs.Bits.{bits_of, bits}
use Rattle.ff_bits.proofs.waiting.flushed.Given as goal

abbrev pub invariant-loop-left : goal.invariant-loop-left
invariant-loop-left l = record {
  few : l.left < 8;
  room : 0 < l.left → vec_len l.bytes + l.left ≤ vec_capacity l.bytes;
  bits : bits l.bytes.items ++ bits_of (8 * l.left) l.word ≡ bits l.fn.bytes.items ++ bits_of l.count l.word;
}

abbrev pub decreases-loop-left : goal.decreases-loop-left
decreases-loop-left l = l.left
