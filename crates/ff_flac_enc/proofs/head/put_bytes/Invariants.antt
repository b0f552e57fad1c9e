use Rattle.std.proofs.Common.{◌≡◌, ◌++◌, take}
use Rattle.std.specs.List.{flat_map}
use Rattle.ff_bits.specs.Bits.{bits_of}
use Rattle.ff_flac_enc.proofs.head.put_bytes.Given as goal

abbrev pub invariant-loop-byte : goal.invariant-loop-byte
invariant-loop-byte l = l.out ≡ l.initial.out ++ flat_map (bits_of 8) (take l.byte-index l.bytes)
