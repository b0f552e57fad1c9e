use Rattle.std.proofs.Common.{◌≡◌, take}
use Rattle.ff_bits.specs.Crc.{remainder_from}
use Rattle.ff_bits.specs.laws.Carried.{word_bits}
use Rattle.ff_bits.proofs.crc.words_to_16.Given as goal

abbrev pub invariant-loop-word : goal.invariant-loop-word
invariant-loop-word l = l.sum ≡ remainder_from 0x18005 16 l.fn.sum (word_bits (take l.word-index l.words))
