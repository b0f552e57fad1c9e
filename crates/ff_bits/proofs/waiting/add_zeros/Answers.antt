use Rattle.std.proofs.Common.{arith}
use Rattle.ff_bits.specs.Bits.{bits_of, bits}
use Rattle.ff_bits.proofs.WriterLemmas.{zeros_left}
use Rattle.ff_bits.proofs.waiting.add_zeros.Goals as goal

pub loop-left-preserved : goal.loop-left-preserved
loop-left-preserved c =
    let l = c.loop-left in
    record {
      within = c.add-more.ensures.within;
      below = c.add-more.ensures.below;
      room = omega (arith, l.invariant.room, c.add-more.ensures.len, c.add-more.ensures.capacity);
      grown = omega (arith, l.invariant.grown, c.add-more.ensures.len);
      capacity = omega (arith, l.invariant.capacity, c.add-more.ensures.capacity);
      bits = zeros_left _ (bits l.bytes.items) (bits_of l.waiting_count l.waiting) _ l.left c.loop-left-test.true c.add-more.ensures.bits l.invariant.bits;
    }
