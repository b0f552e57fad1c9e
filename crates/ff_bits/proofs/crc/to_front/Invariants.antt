use Rattle.std.proofs.Common.{◌≡◌, take, drop}
use Rattle.ff_bits.proofs.crc.to_front.Given as goal

abbrev pub invariant-loop-i : goal.invariant-loop-i
invariant-loop-i l = record {
  moved : take l.i l.words ≡ take l.i (drop 64 l.fn.words);
  same : drop 30 l.words ≡ drop 30 l.fn.words;
}
