-- What a writer of bits holds.
use Rattle.std.specs.Prelude.{◌+◌, ◌^◌, ◌<◌, ◌≤◌, Bool, List, ◌++◌, vec_len, vec_capacity}
use Rattle.ff_bits.specs.Bits.{bits_of, bits}
use Rattle.ff_bits.specs.declared.writer.BitWriter.TheInside.{Inside}

-- the whole bytes, then the bits that wait in the word
abbrev pub written : Inside → List Bool
written w = bits w.bytes.items ++ bits_of w.count w.word

-- what waits is within a word, and the vector has room for it
pub record IsWriter (w : Inside) : Type 0 where
  pub count : w.count < 64
  pub word : w.word < 2 ^ w.count
  pub room : 0 < w.count → vec_len w.bytes + 8 ≤ vec_capacity w.bytes
