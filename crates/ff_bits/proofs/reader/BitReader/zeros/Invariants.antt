use Rattle.std.proofs.Common.{◌≡◌, ◌+◌, ◌≤◌, length}
use Rattle.ff_bits.specs.Reading.{zeros_from, zeros}
use Rattle.ff_bits.proofs.reader.BitReader.zeros.Given as goal

abbrev pub invariant-loop-count : goal.invariant-loop-count
invariant-loop-count l = record {
  past : zeros_from l.limit l.count l.self ≡ zeros l.limit l.fn.self;
  few : l.count ≤ l.limit + 64;
}

abbrev pub decreases-loop-count : goal.decreases-loop-count
decreases-loop-count l = length l.self
