use Rattle.std.proofs.Common.{◌≡◌, ◌++◌, ◌+◌, ◌/◌, ◌^◌, ◌≤◌, ◌<◌, vec_len, vec_capacity}
use Rattle.ff_bits.specs.Bits.{bits_of, bits}
use Rattle.ff_bits.proofs.waiting.add_zeros.Given as goal

abbrev pub invariant-loop-left : goal.invariant-loop-left
invariant-loop-left l = record {
  within : l.waiting_count < 64;
  below : l.waiting < 2 ^ l.waiting_count;
  room : vec_len l.bytes + l.left / 8 + 16 ≤ vec_capacity l.bytes;
  grown : vec_len l.bytes + l.left / 8 ≤ vec_len l.fn.bytes + l.n / 8;
  capacity : vec_capacity l.fn.bytes ≤ vec_capacity l.bytes;
  bits : bits l.bytes.items ++ bits_of l.waiting_count l.waiting ++ bits_of l.left 0 ≡ bits l.fn.bytes.items ++ bits_of l.count l.word ++ bits_of l.n 0;
}

abbrev pub decreases-loop-left : goal.decreases-loop-left
decreases-loop-left l = l.left
