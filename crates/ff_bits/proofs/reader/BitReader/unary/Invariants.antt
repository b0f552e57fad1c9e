use Rattle.std.proofs.Common.{◌≡◌, ◌+◌, ◌++◌, length, false}
use Rattle.std.specs.Prelude.{replicate}
use Rattle.ff_bits.proofs.reader.BitReader.unary.Given as goal

abbrev pub invariant-loop-self : goal.invariant-loop-self
invariant-loop-self l = record {
  past : l.fn.self ≡ replicate l.zeros false ++ l.self;
  count : l.zeros + length l.self ≡ length l.fn.self;
}

abbrev pub decreases-loop-self : goal.decreases-loop-self
decreases-loop-self l = length l.self
