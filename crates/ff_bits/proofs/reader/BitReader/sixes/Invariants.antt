use Rattle.std.proofs.Common.{◌≡◌, ◌+◌, ◌-◌, ◌*◌, ◌^◌, ◌<◌}
use Rattle.ff_bits.specs.NumberGrammar.{sixes}
use Rattle.ff_bits.proofs.reader.BitReader.sixes.Given as goal

abbrev pub invariant-loop-i : goal.invariant-loop-i
invariant-loop-i l = record {
  reads : sixes (l.count - l._i) l.value l.self ≡ sixes l.count l.opened l.fn.self;
  small : l.value < 2 ^ (7 + 6 * l._i);
}
