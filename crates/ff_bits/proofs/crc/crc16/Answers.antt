use Rattle.std.proofs.Common.{ℕ, sym, subst}
use Rattle.ff_bits.specs.Bits.{bits}
use Rattle.ff_bits.specs.Crc.{IsRemainder, crc16_of}
use Rattle.ff_bits.proofs.CrcLemmas.{IsRemainder-crc16_of}
use Rattle.ff_bits.proofs.crc.crc16.Goals as goal

pub returns-then-bytes-lt1024-clause-exact : goal.returns-then-bytes-lt1024-clause-exact
unfolding crc16_of
returns-then-bytes-lt1024-clause-exact c = c.bytes_to_16.ensures

pub returns-then-bytes-lt1024-clause-remainder : goal.returns-then-bytes-lt1024-clause-remainder
returns-then-bytes-lt1024-clause-remainder c =
    subst (λ (r : ℕ). IsRemainder 0x18005 16 (bits c.args.bytes.now) r) (sym (returns-then-bytes-lt1024-clause-exact c)) (IsRemainder-crc16_of (bits c.args.bytes.now))

pub returns-else-bytes-lt1024-clause-remainder : goal.returns-else-bytes-lt1024-clause-remainder
returns-else-bytes-lt1024-clause-remainder c =
    subst (λ (r : ℕ). IsRemainder 0x18005 16 (bits c.args.bytes.now) r) (sym c.many_to_16.ensures) (IsRemainder-crc16_of (bits c.args.bytes.now))
