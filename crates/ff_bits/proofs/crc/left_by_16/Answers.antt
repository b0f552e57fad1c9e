-- The table is held against the division at each of its entries, by computing.
use Rattle.std.proofs.Common.{◌≡◌, true, refl, arith}
use Rattle.ff_bits.specs.Bits.{bits_of}
use Rattle.ff_bits.specs.Crc.{left_of}
use Rattle.ff_bits.specs.declared.table16.TheConstants.{TABLE16}
use Rattle.ff_bits.proofs.Slices.{is_table, walk, follows, entry_of}
use Rattle.ff_bits.proofs.crc.left_by_16.Goals as goal

is_right : is_table 0x18005 16 TABLE16 ≡ true
unfolding is_table walk follows left_of bits_of
is_right = refl

pub returns : goal.returns
returns c = entry_of 0x18005 16 TABLE16 refl is_right c.args.behind c.args.byte c.requires (omega arith)
