use Rattle.std.proofs.Common.{◌≡◌, ◌++◌, take}
use Rattle.std.specs.Prelude.{replicate}
use Rattle.ff_bits.specs.Bits.{value_of, bits}
use Rattle.ff_bits.proofs.word.last_word.Given as goal

abbrev pub invariant-loop-i : goal.invariant-loop-i
invariant-loop-i l = l.word ≡ value_of (bits (take l.i (l.bytes ++ replicate 8 0)))
