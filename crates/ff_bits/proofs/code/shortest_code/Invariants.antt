use Rattle.std.proofs.Common.{◌≡◌, ◌+◌, ◌-◌, ◌*◌, ◌^◌, ◌<◌, ◌++◌}
use Rattle.ff_bits.specs.Bits.{bits_of}
use Rattle.ff_bits.specs.Number.{further_bytes, code_with}
use Rattle.ff_bits.proofs.code.shortest_code.Given as goal

abbrev pub invariant-loop-i : goal.invariant-loop-i
invariant-loop-i l = record {
  code : bits_of (8 * l.i + 8) l.bits ++ further_bytes (l.further - l.i) l.value ≡ code_with l.further l.value;
  within : l.bits < 2 ^ (8 * l.i + 8);
}
