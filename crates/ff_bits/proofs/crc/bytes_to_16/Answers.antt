use Rattle.std.proofs.Common.{List, ℕ, arith}
use Rattle.ff_bits.proofs.Slices.{eight_on, one_on, none_on}
use Rattle.ff_bits.proofs.crc.bytes_to_16.Goals as goal

pub loop-left-preserved : goal.loop-left-preserved
loop-left-preserved c = eight_on 0x18005 16 c.loop-left.sum c.eight_to_16-sum.result c.loop-left.left.now _ c.eight_to_16-sum.ensures c.loop-left.invariant

pub loop-byte-preserved : goal.loop-byte-preserved
loop-byte-preserved c =
    let xs : List ℕ = c.loop-left.left.now in
    let i : ℕ = c.loop-byte.byte-index in
    one_on 0x18005 16 c.loop-byte.sum c.byte_to_16-sum.result i xs _ (omega arith) c.byte_to_16-sum.ensures c.loop-byte.invariant

pub returns : goal.returns
returns c = none_on 0x18005 16 c.loop-byte.sum c.loop-byte.byte-index c.loop-left.left.now _ (omega arith) c.loop-byte.invariant
